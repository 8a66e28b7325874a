use Rattle.std.proofs.Common.{List, ap, subst, sym, ◌∙◌}
use Rattle.std.specs.List.{filter, flat_map}
use Rattle.gft_outside.specs.ControlInputs.{ControlInput}
use Rattle.gft_outside.specs.ControlScripts.{control_inputs}
use Rattle.gft_outside.specs.Lists.{AllTell, Script, StandsIn, tells}
use Rattle.gft_outside.specs.declared.control_item.ControlItem.{ControlItem}
use Rattle.gft_outside.proofs.Places.{all_tell, flat_telling, stands_first}
use Rattle.gft_outside.proofs.control_script.ControlScript.new.Goals as goal

pub invariant_of-result : goal.invariant_of-result
invariant_of-result c =
    let telling : List ControlItem = filter (tells control_inputs) c.args.items.items in
    let all = all_tell control_inputs c.args.items.items in
    subst (λ (l : List ControlItem). AllTell control_inputs l × StandsIn control_inputs 0 l) (sym c.telling.ensures)
    (all, stands_first control_inputs telling 0 all)

pub returns : goal.returns
returns c =
    let begun : List ControlInput → Script ControlInput = λ l. record { all = l; place = 0 } in
    ap begun (ap (flat_map control_inputs) c.telling.ensures ∙ flat_telling control_inputs c.args.items.items)
