use Rattle.std.proofs.Common.{List, ap, subst, sym, ◌∙◌}
use Rattle.std.specs.List.{filter, flat_map}
use Rattle.gft_outside.specs.LaneInputs.{LaneInput}
use Rattle.gft_outside.specs.LaneScripts.{lane_inputs}
use Rattle.gft_outside.specs.Lists.{AllTell, Script, StandsIn, tells}
use Rattle.gft_outside.specs.declared.lane_item.LaneItem.{LaneItem}
use Rattle.gft_outside.proofs.Places.{all_tell, flat_telling, stands_first}
use Rattle.gft_outside.proofs.lane_script.LaneScript.new.Goals as goal

pub invariant_of-result : goal.invariant_of-result
invariant_of-result c =
    let telling : List LaneItem = filter (tells lane_inputs) c.args.items.items in
    let all = all_tell lane_inputs c.args.items.items in
    subst (λ (l : List LaneItem). AllTell lane_inputs l × StandsIn lane_inputs 0 l) (sym c.telling.ensures)
    (all, stands_first lane_inputs telling 0 all)

pub returns : goal.returns
returns c =
    let begun : List LaneInput → Script LaneInput = λ l. record { all = l; place = 0 } in
    ap begun (ap (flat_map lane_inputs) c.telling.ensures ∙ flat_telling lane_inputs c.args.items.items)
