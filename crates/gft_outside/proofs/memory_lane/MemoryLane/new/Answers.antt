use Rattle.std.proofs.Common.{◌≡◌, true, false, List, take, reverse, refl, sym, ap, ◌∙◌, subst}
use Rattle.std.specs.List.{flat_map}
use Rattle.gft_outside.specs.LaneInputs.{AreInTurn, LaneInput, no_channels}
use Rattle.gft_outside.specs.LaneScripts.{front_in_turn, lane_inputs}
use Rattle.gft_outside.specs.Lists.{Script}
use Rattle.gft_outside.proofs.TurnLemmas.{in_turn_front}
use Rattle.gft_outside.proofs.memory_lane.MemoryLane.new.Goals as goal

pub invariant_of-result : goal.invariant_of-result
invariant_of-result c =
    let items = c.args.items.items in
    let kept = c.truncate.ensures.items ∙ ap (take c.count_in_turn-count.result) (sym c.deref.ensures.value) ∙ c.count_in_turn-count.ensures.front ∙ ap (front_in_turn no_channels) c.deref.ensures.value in
    let all : c.new.result.all ≡ flat_map lane_inputs (front_in_turn no_channels items) = ap (λ (s : Script LaneInput). s.all) c.new.ensures ∙ ap (flat_map lane_inputs) kept in (
      subst (λ (l : List LaneInput). AreInTurn (reverse l) no_channels) (sym all) (in_turn_front items no_channels),
      λ (no_end : false ≡ true). cc,
      λ unused. (ap (λ (s : Script LaneInput). s.place) c.new.ensures, refl, c.new-3.ensures),
    )
