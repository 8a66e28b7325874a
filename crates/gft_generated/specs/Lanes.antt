-- A lane whose data connections carry given streams.
use Rattle.std.specs.Prelude.{◌≡◌, ℕ, suc, ◌<◌, Bool, true, false, if◌then◌else◌, List, [], ◌∷◌, length, None}
use Rattle.std.specs.Prelude.{Ok, Some, slice_get}
use Rattle.gft_base.specs.declared.errors.Failed.{Failed}
use Rattle.gft_outside.specs.declared.LaneEvent.{LaneEvent}
use Rattle.gft_outside.specs.Words.{Gives, LaneState, ends_lane, given_by}
use Rattle.gft_generated.specs.declared.lane.Connection.{Connection}

pub record OnLane : Type 0 where
  -- what those carry that weren't opened yet, the next one last
  pub waiting : List (List ℕ)
  -- those that were opened, by their numbers
  pub opened : List Connection
  -- whose turn it is, and how much of its piece is left
  pub turn : ℕ
  pub piece_left : ℕ
  pub is_done : Bool

-- the numbers of those that haven't ended, of connections whose numbers begin at n
abbrev pub live_from : ℕ → List Connection → List ℕ
live_from n [] = []
live_from n (connection ∷ more) =
    if connection.is_live then n ∷ live_from (suc n) more else live_from (suc n) more

-- it tells no bytes, and no call of it fails
abbrev pub generated_lane_state : OnLane → LaneState
generated_lane_state lane = record {
  taken = None;
  left = None;
  channels = record { opened = length lane.opened; live = live_from 0 lane.opened };
  is_done = lane.is_done;
  faults = 0;
}

-- the connection with this number hasn't ended
pub record IsLiveAt (opened : List Connection) (number : ℕ) : Type 0 where
  pub connection : Connection
  pub at : slice_get opened number ≡ Some connection
  pub live : connection.is_live ≡ true
  pub inside : number < length opened

-- an event came that isn't the lane's end
pub record Comes (event : LaneEvent) (buf : List ℕ) (old new : OnLane) : Type 0 where
  pub gives : Gives (given_by {E = Failed} (Ok event) buf) (generated_lane_state old)
      (generated_lane_state new)
  pub more : ends_lane event ≡ false
  pub same : new.is_done ≡ old.is_done
