-- What is true of the settings of every session.
use Rattle.std.specs.Prelude.{◌≤◌, All, length}
use Rattle.gft_opts.specs.declared.TheConstants.{MAX_TARGETS}
use Rattle.gft_outside.specs.Words.{IsNewLane, LaneState}
use Rattle.gft_session.specs.Settings.{State, held}

-- the lanes that wait are at most as many as a transfer has, and no channel was opened on them
pub record IsFit {L : Type 0} (lane : L → LaneState) (state : State L) : Type 0 where
  pub unused : All (λ l. IsNewLane (lane l)) (held state)
  pub few : length (held state) ≤ MAX_TARGETS
