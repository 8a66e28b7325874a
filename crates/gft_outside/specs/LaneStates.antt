-- What a lane is, and what a call of it gives.
use Rattle.std.specs.Prelude.{◌≡◌, ℕ, ◌≤◌, Bool, true, false, List, [], ◌∷◌, take, map, reverse}
use Rattle.std.specs.Prelude.{Option, Result, Ok, Err}
use Rattle.gft_outside.specs.LaneInputs.{LaneInput, Opened, Came, Ended, Silence}
use Rattle.gft_outside.specs.LaneInputs.{Channels, channels_after, AreInTurn}
use Rattle.gft_outside.specs.Told.{Gains, Loses, IsOver}
use Rattle.gft_outside.specs.declared.lane.LaneEvent.{LaneEvent}
use Rattle.gft_outside.specs.declared.lane.LaneEvent.TheVariants as event

pub record LaneState : Type 0 where
  -- what was taken, the newest first, and what is left, if the lane tells it
  pub taken : Option (List LaneInput)
  pub left : Option (List LaneInput)
  pub channels : Channels
  -- `Done` was answered
  pub is_done : Bool
  -- how often a call failed
  pub faults : ℕ

-- what an answer gives, the newest first: its bytes stand at the front of the buffer
abbrev pub given_by : {E : Type 0} → Result LaneEvent E → List ℕ → List LaneInput
given_by (Ok (event.Opened channel)) buf = Opened channel ∷ []
given_by (Ok (event.Bytes channel count)) buf = reverse (map (λ value. Came channel value) (take count buf))
given_by (Ok (event.Ended channel)) buf = Ended channel ∷ []
given_by (Ok event.Quiet) buf = Silence ∷ []
given_by (Ok event.Done) buf = []
given_by (Err error) buf = []

-- the bytes of an event, at least one, fit a buffer of this length
abbrev pub EventFits : LaneEvent → ℕ → Type 0
EventFits (event.Bytes channel count) room = (1 ≤ count) × (count ≤ room)
EventFits (event.Opened channel) room = Unit {0}
EventFits (event.Ended channel) room = Unit {0}
EventFits event.Quiet room = Unit {0}
EventFits event.Done room = Unit {0}

-- nothing comes behind the event
abbrev pub ends_lane : LaneEvent → Bool
ends_lane (event.Opened channel) = false
ends_lane (event.Bytes channel count) = false
ends_lane (event.Ended channel) = false
ends_lane event.Quiet = false
ends_lane event.Done = true

abbrev pub IsNotDone : LaneEvent → Type 0
IsNotDone event = ends_lane event ≡ false

-- a lane went from one state to another, and gave these meanwhile, the newest first
pub record Gives (given : List LaneInput) (old new : LaneState) : Type 0 where
  pub taken : Gains old.taken new.taken given
  pub left : Loses old.left new.left given
  pub channels : new.channels ≡ channels_after given old.channels
  pub in_turn : AreInTurn given old.channels

-- `Done` comes where nothing is left, and nothing else comes behind it
abbrev pub LaneEnds : {E : Type 0} → Result LaneEvent E → LaneState → LaneState → Type 0
LaneEnds (Ok (event.Opened channel)) old new = (old.is_done ≡ false) × (new.is_done ≡ false)
LaneEnds (Ok (event.Bytes channel count)) old new = (old.is_done ≡ false) × (new.is_done ≡ false)
LaneEnds (Ok (event.Ended channel)) old new = (old.is_done ≡ false) × (new.is_done ≡ false)
LaneEnds (Ok event.Quiet) old new = (old.is_done ≡ false) × (new.is_done ≡ false)
LaneEnds (Ok event.Done) old new = (new.is_done ≡ true) × IsOver new.left
LaneEnds (Err error) old new = new.is_done ≡ old.is_done
