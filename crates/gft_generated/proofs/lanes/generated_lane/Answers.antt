use Rattle.std.proofs.Common.{◌≡◌, ◌-◌, ℕ, List, arith, ap, length, rules, subst, sym, ◌∙◌}
use Rattle.std.specs.Prelude.{slice_get}
use Rattle.gft_generated.specs.Carried.{IsCarried}
use Rattle.gft_generated.proofs.EachLemmas.{each_more}
use Rattle.gft_generated.proofs.lanes.generated_lane.Goals as goal

pub loop-number-preserved : goal.loop-number-preserved
loop-number-preserved c =
    let stream = c.in_ok-carried_stream.field-0 in
    let before = c.loop-number.streams.items in
    let long : length before ≡ c.loop-number.number = search rules in
    let channel : 4 - 1 - c.loop-number.number ≡ 3 - length before = omega (arith, long) in
    let last = subst (λ (n : ℕ). IsCarried c.args.file c.args.done.now.ranges c.args.cut c.args.stripe n stream) channel c.in_ok-carried_stream.ensures in (
      search rules,
      λ k bytes at. each_more (λ n b. IsCarried c.args.file c.args.done.now.ranges c.args.cut c.args.stripe (3 - n) b) before stream c.loop-number.invariant.1 last k bytes
          (ap (λ (l : List (List ℕ)). slice_get l k) (sym c.in_ok-push.ensures.items) ∙ at),
    )
