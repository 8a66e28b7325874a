-- What a mover did with its lane and its pass.
use Rattle.std.specs.Prelude.{◌≡◌, ◌⊎◌, ℕ, ◌≤◌, true, List, [], ◌++◌, Some, None}
use Rattle.gft_base.specs.Words.{Rose}
use Rattle.gft_eblock.specs.Words.{Arrival}
use Rattle.gft_outside.specs.Words.{Gives, IsOver, LaneInput, LaneState, lane_arrivals}
use Rattle.gft_pass.specs.declared.Cause.{Cause}
use Rattle.gft_pass.specs.declared.Cause.TheVariants.{Idle, LinkFailed}
use Rattle.gft_pass.specs.declared.Numbers.{Numbers}
use Rattle.gft_book.specs.Words.{as_stopped, with_cause}
use Rattle.gft_receive.specs.Causes.{first_cause, silences}
use Rattle.gft_receive.specs.Booking.{IsBooksCause, numbers_after}

-- what a mover is told of its lane and its patience
pub record Bounds : Type 0 where
  pub lane : ℕ
  pub shift : ℕ
  pub idle : ℕ

-- the lane shows the cause: it is the first of the table; or the lane showed none, and was silent so long or
-- failed
abbrev pub IsLanesCause : Bounds → List LaneInput → Type 0 → Cause → Type 0
IsLanesCause bounds inputs rose cause =
    (first_cause bounds.lane bounds.shift inputs ≡ Some cause)
    ⊎ ((first_cause bounds.lane bounds.shift inputs ≡ None)
    × (((turns : ℕ) × (cause ≡ Idle bounds.lane turns) × (bounds.idle ≤ silences inputs))
    ⊎ ((cause ≡ LinkFailed) × rose)))

-- nothing stopped the mover: the lane is done, showed no cause, and all that it brought is booked
pub record IsDoneWith (bounds : Bounds) (inputs : List LaneInput) (rest : List Arrival) (is_done : Type 0)
    (had after : Numbers) : Type 0 where
  pub numbers : after ≡ had
  pub done : is_done
  pub all : rest ≡ []
  pub none : first_cause bounds.lane bounds.shift inputs ≡ None

-- the pass keeps the cause: the lane's, or the Book's
pub record HasFailedFor (bounds : Bounds) (inputs : List LaneInput) (rest : List Arrival) (rose : Type 0)
    (had after : Numbers) : Type 0 where
  pub cause : Cause
  pub kept : after ≡ with_cause cause had
  pub shown : IsLanesCause bounds inputs rose cause ⊎ IsBooksCause rest cause

-- how a mover ends that booked with its pass all but the rest of what the lane brought: it is done; or the
-- transfer ended without it; or it failed for a cause
abbrev pub MoverEnds : Bounds → List LaneInput → List Arrival → Type 0 → Type 0 → Numbers → Numbers
    → Type 0
MoverEnds bounds inputs rest rose done had after =
    IsDoneWith bounds inputs rest done had after
    ⊎ (after ≡ as_stopped had)
    ⊎ HasFailedFor bounds inputs rest rose had after

-- the lane gave its `Done`, and all that it told
abbrev pub GaveAll : LaneState → Type 0
GaveAll state = (state.is_done ≡ true) × IsOver state.left

-- the mover took inputs from its lane, in order, and booked the front of what they brought
pub record IsMoved (bounds : Bounds) (old new : LaneState) (before after : Numbers) : Type 0 where
  pub inputs : List LaneInput
  pub gives : Gives inputs old new
  pub booked : List Arrival
  pub rest : List Arrival
  pub front : lane_arrivals bounds.shift inputs ≡ booked ++ rest
  pub ends : MoverEnds bounds inputs rest (Rose old.faults new.faults) (GaveAll new)
      (numbers_after booked before) after
