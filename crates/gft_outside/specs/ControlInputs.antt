-- What is heard on a control connection, byte by byte, and what a control is. Lists of inputs that were
-- taken are newest first.
use Rattle.std.specs.Prelude.{◌≡◌, ℕ, ◌≤◌, Bool, true, false, List, [], ◌∷◌, ◌++◌, take, map, reverse}
use Rattle.std.specs.Prelude.{Option, None, Result, Ok, Err}
use Rattle.gft_outside.specs.Told.{Gains, Loses, IsOver}
use Rattle.gft_outside.specs.declared.control.Heard.{Heard}
use Rattle.gft_outside.specs.declared.control.Heard.TheVariants as heard

pub data ControlInput : Type 0 where
  Said : (value : ℕ) → ControlInput
  -- nothing was said for a while
  Pause : ControlInput

pub record ControlState : Type 0 where
  -- what was taken, and what is left, if the control tells it
  pub taken : Option (List ControlInput)
  pub left : Option (List ControlInput)
  -- `Ended` was answered
  pub is_over : Bool
  -- how often a poll failed
  pub faults : ℕ

-- what an answer gives, the newest first: its bytes stand at the front of the buffer
abbrev pub heard_by : {E : Type 0} → Result Heard E → List ℕ → List ControlInput
heard_by (Ok (heard.Bytes count)) buf = reverse (map (λ value. Said value) (take count buf))
heard_by (Ok heard.Quiet) buf = Pause ∷ []
heard_by (Ok heard.Ended) buf = []
heard_by (Err error) buf = []

-- the bytes of an answer, at least one, fit a buffer of this length
abbrev pub HeardFits : Heard → ℕ → Type 0
HeardFits (heard.Bytes count) room = (1 ≤ count) × (count ≤ room)
HeardFits heard.Quiet room = Unit {0}
HeardFits heard.Ended room = Unit {0}

abbrev pub IsNotOver : Heard → Type 0
IsNotOver (heard.Bytes count) = Unit {0}
IsNotOver heard.Quiet = Unit {0}
IsNotOver heard.Ended = ⊥

-- a control went from one state to another, and these were heard, the newest first
pub record Hears (given : List ControlInput) (old new : ControlState) : Type 0 where
  pub taken : Gains old.taken new.taken given
  pub left : Loses old.left new.left given

-- `Ended` comes where nothing is left, and nothing else comes behind it
abbrev pub ControlEnds : {E : Type 0} → Result Heard E → ControlState → ControlState → Type 0
ControlEnds (Ok (heard.Bytes count)) old new = (old.is_over ≡ false) × (new.is_over ≡ false)
ControlEnds (Ok heard.Quiet) old new = (old.is_over ≡ false) × (new.is_over ≡ false)
ControlEnds (Ok heard.Ended) old new = (new.is_over ≡ true) × IsOver new.left
ControlEnds (Err error) old new = new.is_over ≡ old.is_over

-- a control that tells nothing, and never ends or fails
abbrev pub unheard : ControlState
unheard = record { taken = None; left = None; is_over = false; faults = 0 }

-- the bytes that were said, in order
abbrev pub said : List ControlInput → List ℕ
said [] = []
said (Said value ∷ older) = said older ++ value ∷ []
said (Pause ∷ older) = said older
