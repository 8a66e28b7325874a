-- What the memory form of a control shows.
use Rattle.std.specs.Prelude.{ℕ, Bool, false, List, [], ◌∷◌, take, drop, map, reverse, Some}
use Rattle.gft_outside.specs.ControlInputs.{ControlInput, ControlState, Said, Pause}
use Rattle.gft_outside.specs.Lists.{Failures, Script}
use Rattle.gft_outside.specs.declared.control_item.ControlItem.{ControlItem}
use Rattle.gft_outside.specs.declared.control_item.ControlItem.TheVariants as item

-- what an item tells, in order
abbrev pub control_inputs : ControlItem → List ControlInput
control_inputs (item.Bytes bytes) = map (λ value. Said value) bytes
control_inputs item.Quiet = Pause ∷ []

pub record ControlList : Type 0 where
  pub script : Script ControlInput
  pub failing : Failures
  pub is_over : Bool
  pub faults : ℕ

abbrev pub control_state : ControlList → ControlState
control_state control = record {
  taken = Some (reverse (take control.script.place control.script.all));
  left = Some (drop control.script.place control.script.all);
  is_over = control.is_over;
  faults = control.faults;
}

-- a control that has all this left, and on which these calls are to fail
abbrev pub new_control : List ControlInput → List ℕ → ControlList
new_control all failing = record {
  script = record { all = all; place = 0 };
  failing = record { numbers = failing; calls = 0 };
  is_over = false;
  faults = 0;
}
