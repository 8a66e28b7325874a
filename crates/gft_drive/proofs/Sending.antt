-- One lane that sends all of a source.
use Rattle.std.proofs.Common.{◌≡◌, ◌⊎◌, inl, inr, ℕ, zero, suc, ◌+◌, ◌<◌, ◌≤◌, List, [], ◌∷◌, length, Some, arith, refl, subst}
use Rattle.std.proofs.lemmas.Bool.{cases_lt}
use Rattle.std.proofs.lemmas.Option.{same_Some}
use Rattle.gft_base.specs.declared.TheConstants.{LIMIT}
use Rattle.gft_range.specs.declared.Range.{Range}
use Rattle.gft_drive.specs.Origin.{AreFit, IsAmong, IsSending, offsets_from, one_lane}

pub among_offsets : (offset x : ℕ) (bytes : List ℕ) → offset ≤ x → x < offset + length bytes → IsAmong x (offsets_from offset bytes)
among_offsets offset x [] le lt = absurd (omega arith)
among_offsets offset x (b ∷ bs) le lt =
    elim (cases_lt offset x) [
      | inl above ↦ inr (among_offsets (offset + 1) x bs (omega arith) (omega arith))
      | inr here ↦ inl (omega arith)
    ]

pub offsets_below : (offset x : ℕ) (bytes : List ℕ) → IsAmong x (offsets_from offset bytes) → x < offset + length bytes
offsets_below offset x [] none = absurd none
offsets_below offset x (b ∷ bs) among =
    elim among [ inl here ↦ omega arith | inr later ↦ let below = offsets_below (offset + 1) x bs later in omega arith ]

lane_below : (lane x : ℕ) (source : List ℕ) → IsAmong x ((one_lane source).order lane) → x < length source
lane_below zero x source among = let below = offsets_below 0 x source among in omega arith
lane_below (suc lane) x source none = absurd none

lane_silent : (lane : ℕ) (source : List ℕ) → (one_lane source).number lane ≡ 0 → (one_lane source).order lane ≡ []
lane_silent zero source no_eod = absurd (omega (arith, no_eod))
lane_silent (suc lane) source no_eod = refl

no_lane : (lane : ℕ) (source : List ℕ) → 1 ≤ lane → (one_lane source).number lane ≡ 0
no_lane zero source le = absurd (omega (arith, le))
no_lane (suc lane) source le = refl

-- what one lane sends of a source that isn't too long is a sending of it
pub one_lane_fits : (source : List ℕ) (rest : List Range) → length source ≤ LIMIT → IsSending source rest (one_lane source)
one_lane_fits source rest bound = record {
  bound = bound;
  plan = record {
    silent = λ lane none. lane_silent lane source none;
    no_more = λ lane le. no_lane lane source le;
    all = λ x lt. inr (0, omega arith, among_offsets 0 x source (omega arith) (omega (arith, lt)));
  };
  below = λ lane x among. lane_below lane x source among;
  some = omega arith;
  most = omega arith;
}

-- and so for a label of which one source is known
pub one_lane_fit : (source : List ℕ) → length source ≤ LIMIT → AreFit (λ _. Some source) (λ _ _. one_lane source)
one_lane_fit source bound label bytes told rest =
    subst (λ (all : List ℕ). IsSending all rest (one_lane source)) (same_Some source bytes told) (one_lane_fits source rest bound)
