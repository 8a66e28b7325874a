-- What one line takes off a control. Lists of what was heard are newest first.
use Rattle.std.specs.Prelude.{◌≡◌, ℕ, ◌+◌, ◌<◌, true, List, [], ◌∷◌, ◌++◌, Result, Err}
use Rattle.gft_base.specs.Words.{Rose}
use Rattle.gft_text.specs.Words.{Held, Line, Overlong, Told, shown}
use Rattle.gft_text.specs.Words.{lines_to_come}
use Rattle.gft_outside.specs.Words.{ControlInput, ControlState, Hears, IsOver, Pause, Said, said}
use Rattle.gft_session.specs.declared.session_end.SessionEnd.{SessionEnd}
use Rattle.gft_session.specs.declared.session_end.SessionEnd.TheVariants as ends

-- how often in a row the control was silent since it last said something
abbrev pub pauses : List ControlInput → ℕ
pauses [] = 0
pauses (Said value ∷ older) = 0
pauses (Pause ∷ older) = pauses older + 1

-- at no moment was it silent so often in a row
abbrev pub IsPatient : ℕ → List ControlInput → Type 0
IsPatient idle [] = Unit {0}
IsPatient idle (input ∷ older) = (pauses (input ∷ older) < idle) × IsPatient idle older

-- it was silent so often in a row at the end, and never before
abbrev pub IsIdle : ℕ → List ControlInput → Type 0
IsIdle idle [] = ⊥
IsIdle idle (input ∷ older) = (pauses (input ∷ older) ≡ idle) × IsPatient idle older

-- whatever follows, these inputs tell these lines and then what the reader still has to tell
abbrev pub Brings : Held → List ControlInput → List Told → Held → Type 0
Brings old inputs lines new =
    (later : List ℕ) → lines_to_come old (said inputs ++ later) ≡ lines ++ lines_to_come new later

-- a whole line was heard, and never too long a silence
pub record HearsLine (idle : ℕ) (was now : ControlState) (old new : Held) : Type 0 where
  pub inputs : List ControlInput
  pub heard : Hears inputs was now
  pub brings : Brings old inputs (Line (shown new) ∷ []) new
  pub settled : lines_to_come new [] ≡ []
  pub patient : IsPatient idle inputs

-- why no whole line was heard: `Ended` was answered, or it was silent too often, or another reason
abbrev pub IsReason : SessionEnd → ℕ → List ControlInput → ControlState → Type 0
IsReason ends.Quit idle inputs now = ⊥
IsReason ends.OutFault idle inputs now = ⊥
IsReason ends.Closed idle inputs now = (now.is_over ≡ true) × IsOver now.left × IsPatient idle inputs
IsReason ends.IdleControl idle inputs now = IsIdle idle inputs
IsReason _ idle inputs now = IsPatient idle inputs

-- a line too long is told at the end LineTooLong alone
abbrev pub overlong_at : SessionEnd → List Told
overlong_at ends.LineTooLong = Overlong ∷ []
overlong_at _ = []

abbrev pub without_newest : List ControlInput → List ControlInput
without_newest [] = []
without_newest (input ∷ older) = older

-- what the reader of lines took: at OutOfMemory all but the newest input
abbrev pub taken_at : SessionEnd → List ControlInput → List ControlInput
taken_at ends.OutOfMemory inputs = without_newest inputs
taken_at _ inputs = inputs

-- no whole line was heard, and these came behind the last one
pub record StopsHearing (end : SessionEnd) (idle : ℕ) (was now : ControlState) (old : Held) : Type 0 where
  pub inputs : List ControlInput
  pub heard : Hears inputs was now
  pub told : lines_to_come old (said (taken_at end inputs)) ≡ overlong_at end
  pub reason : IsReason end idle inputs now

-- the control's count of faults rose where a poll failed, and stays else
abbrev pub HasHeard : {T : Type 0} → Result T SessionEnd → ℕ → ℕ → Type 0
HasHeard (Err ends.ControlFault) before now = Rose before now
HasHeard _ before now = now ≡ before
