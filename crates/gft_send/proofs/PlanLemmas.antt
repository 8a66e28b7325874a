-- What a plan has to do with the region, and with another plan.
use Rattle.std.proofs.Common.{◌≡◌, ℕ, List, [], ◌∷◌, ◌++◌, length, refl, sym, ap, ◌∙◌, inl, inr}
use Rattle.std.specs.Prelude.{Option, slice_index, slice_range}
use Rattle.gft_range.specs.declared.Range.{Range}
use Rattle.gft_range.specs.Words.{HasOffset, InRange}
use Rattle.gft_drive.specs.Words.{Image}
use Rattle.gft_eblock.specs.Words.{spelling}
use Rattle.gft_layout.specs.Words.{IsAscending, NamesItsOffsets, Owner}
use Rattle.gft_layout.proofs.Lemmas.{NamesItsOffsets-plan}
use Rattle.gft_send.specs.declared.plan.SendPlan.{SendPlan}
use Rattle.gft_send.specs.Sending.{MustHave}
use Rattle.gft_send.specs.Streams.{data_blocks, data_header}
use Rattle.gft_send.specs.Stripes.{channel_plan}
use Rattle.gft_send.proofs.FileLemmas.{part_same}

module _ (plan : SendPlan) (done : List Range) (stripe : ℕ) where
  names : (channel : ℕ) → NamesItsOffsets plan.region done plan.layout plan.shape (record { stripe = stripe; channel = channel }) (channel_plan plan done stripe channel)
  names channel = NamesItsOffsets-plan plan.region done plan.layout plan.shape (record { stripe = stripe; channel = channel })

  pub plan_ascends : (channel : ℕ) → IsAscending (channel_plan plan done stripe channel)
  plan_ascends channel = (names channel).ascending

  -- a plan's offsets are of the region
  pub in_region : (channel x : ℕ) → HasOffset (channel_plan plan done stripe channel) x → InRange plan.region x
  in_region channel x h = (((names channel).offsets x).0 h).0.0

  pub plan_there : (contents : Option Image) (channel : ℕ) → MustHave contents (InRange plan.region) → MustHave contents (HasOffset (channel_plan plan done stripe channel))
  plan_there contents channel there image told x h = there image told x (in_region channel x h)

  -- and of no other data connection
  pub plans_apart : (k channel x : ℕ) → HasOffset (channel_plan plan done stripe k) x → HasOffset (channel_plan plan done stripe channel) x → k ≡ channel
  plans_apart k channel x one other =
      let a = ((names k).offsets x).0 one in
      let b = ((names channel).offsets x).0 other in
      ap (λ (o : Owner). o.channel) (sym a.1 ∙ b.1)

-- blocks of ranges whose places are the same in both files
pub blocks_same : (ranges : List Range) (f g : List ℕ) → length g ≡ length f → ((x : ℕ) → HasOffset ranges x → slice_index g x ≡ slice_index f x) → data_blocks g ranges ≡ data_blocks f ranges
blocks_same [] f g long same = refl
blocks_same (r ∷ rs) f g long same =
    ap (λ (l : List ℕ). spelling (data_header r) ++ (l ++ data_blocks g rs)) (part_same f g r.start r.end long (λ x from to. same x (inl (from, to))))
    ∙ ap (λ (l : List ℕ). spelling (data_header r) ++ (slice_range f r.start r.end ++ l)) (blocks_same rs f g long (λ x h. same x (inr h)))
