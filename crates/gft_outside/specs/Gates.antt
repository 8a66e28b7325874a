-- A lane behind a gate.
use Rattle.std.specs.Prelude.{◌≡◌, ℕ, ◌+◌, ◌<◌, ◌⊎◌, ◌==◌, Bool, true, false, if◌then◌else◌, List}
use Rattle.std.specs.Prelude.{None, Result, Ok, Err}
use Rattle.gft_base.specs.Words.{one_more}
use Rattle.gft_outside.specs.LaneStates.{LaneState, Gives, LaneEnds, given_by}
use Rattle.gft_outside.specs.declared.lane.LaneEvent.{LaneEvent}
use Rattle.gft_outside.specs.declared.lane.LaneEvent.TheVariants as event

pub record GateCounts : Type 0 where
  -- the number of the event that is held, and the most Quiets in its place
  pub held : ℕ
  pub most : ℕ
  -- the events of the lane that passed, and the Quiets
  pub passed : ℕ
  pub quiets : ℕ
  -- the event was let through
  pub is_open : Bool
  pub is_done : Bool

-- a lane, and what its gate counts
pub record Gate (L : Type 0) : Type 0 where
  pub lane : L
  pub counts : GateCounts

-- a gate through which nothing has passed; the number 0 holds nothing
abbrev pub new_gate : ℕ → ℕ → GateCounts
new_gate held most = record {
  held = held;
  most = most;
  passed = 0;
  quiets = 0;
  is_open = held == 0;
  is_done = false;
}

-- a gate doesn't tell its Quiets: it tells what is left once its event was let through
abbrev pub gate_state : {L : Type 0} → (L → LaneState) → Gate L → LaneState
gate_state state gate = record {
  taken = None;
  left = if gate.counts.is_open then (state gate.lane).left else None;
  channels = (state gate.lane).channels;
  is_done = gate.counts.is_done;
  faults = (state gate.lane).faults;
}

-- the gate's event is the next one, and one Quiet more comes in its place
pub record HoldsBack (old new : GateCounts) : Type 0 where
  pub shut : old.is_open ≡ false
  pub goes_on : old.is_done ≡ false
  pub is_next : one_more old.passed ≡ old.held
  pub few : old.quiets < old.most
  pub counted : new ≡ record old { quiets = old.quiets + 1 }

-- the lane's next event passes; the gate is open if that is its event
pub record LetsPass (old new : GateCounts) : Type 0 where
  pub same : new ≡ record old { is_open = new.is_open }
  pub stays : old.is_open ≡ true → new.is_open ≡ true
  pub opens : old.is_done ≡ false → one_more old.passed ≡ old.held → new.is_open ≡ true

abbrev pub GateTurns : Bool → GateCounts → GateCounts → Type 0
GateTurns true old new = HoldsBack old new
GateTurns false old new = LetsPass old new

abbrev pub passed_by : {E : Type 0} → Result LaneEvent E → ℕ → ℕ
passed_by (Ok event) passed = one_more passed
passed_by (Err error) passed = passed

-- the answer is the lane's own
pub record PassesOn {L E : Type 0} (state : L → LaneState) (result : Result LaneEvent E) (buf : List ℕ)
    (old new : Gate L) : Type 0 where
  pub gives : Gives (given_by result buf) (state old.lane) (state new.lane)
  pub ends : LaneEnds result (state old.lane) (state new.lane)
  pub passed : new.counts.passed ≡ passed_by result old.counts.passed
  pub quiets : new.counts.quiets ≡ old.counts.quiets
  pub stays : old.counts.is_open ≡ true → new.counts.is_open ≡ true
  pub opens : old.counts.is_done ≡ false → one_more old.counts.passed ≡ old.counts.held
      → new.counts.is_open ≡ true

-- a Quiet in place of the event, or the lane's own answer
abbrev pub GateAnswers : {L E : Type 0} → (L → LaneState) → Result LaneEvent E → List ℕ
    → Gate L → Gate L → Type 0
GateAnswers state result buf old new =
    ((result ≡ Ok event.Quiet) × (new.lane ≡ old.lane) × HoldsBack old.counts new.counts)
    ⊎ PassesOn state result buf old new
