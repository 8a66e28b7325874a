use Rattle.std.proofs.Common.{◌≡◌, ℕ, List, ap, length, rules, subst, sym, ◌∙◌}
use Rattle.std.specs.Prelude.{slice_get}
use Rattle.gft_outside.specs.Words.{no_channels}
use Rattle.gft_generated.specs.Carried.{CarriesFile}
use Rattle.gft_generated.specs.Lanes.{OnLane, generated_lane_state}
use Rattle.gft_generated.proofs.EachLemmas.{each_more, none_opened}
use Rattle.gft_generated.proofs.lanes.generated_lanes.Goals as goal

pub loop-stripe-preserved : goal.loop-stripe-preserved
loop-stripe-preserved c =
    let lane = c.in_ok-generated_lane.field-0 in
    let before = c.loop-stripe.lanes.items in
    let long : length before ≡ c.loop-stripe.stripe = search rules in
    let none : (generated_lane_state lane).channels ≡ no_channels = none_opened lane c.in_ok-generated_lane.ensures.unopened in
    let last = subst (λ (n : ℕ). CarriesFile c.args.file c.args.done.now.ranges c.args.cut n lane) (sym long) c.in_ok-generated_lane.ensures in (
      search rules,
      search rules,
      λ i other at. each_more (λ n l. CarriesFile c.args.file c.args.done.now.ranges c.args.cut n l) before lane c.loop-stripe.invariant.2 last i other
          (ap (λ (l : List OnLane). slice_get l i) (sym c.in_ok-push.ensures.items) ∙ at),
    )
