-- What the table sees of a session: its settings, and the link.
use Rattle.std.specs.Prelude.{ℕ, Bool, true, false, List, [], ◌∷◌, Option, None, Some}
use Rattle.gft_layout.specs.declared.Layout.{Layout}
use Rattle.gft_layout.specs.declared.Layout.TheVariants as layouts
use Rattle.gft_text.specs.declared.host_port.HostPort.{HostPort}
use Rattle.gft_range.specs.declared.range.Range.{Range}
use Rattle.gft_opts.specs.declared.retr.RetrOptions.{RetrOptions}
use Rattle.gft_outside.specs.Words.{LaneState, LinkState}
use Rattle.gft_drive.specs.Words.{DriveState, Sent}
use Rattle.gft_session.specs.declared.config.Config.{Config}
use Rattle.gft_session.specs.declared.settings.Login.{Login}
use Rattle.gft_session.specs.declared.settings.Login.TheVariants as logins
use Rattle.gft_session.specs.declared.settings.TransferType.{TransferType}
use Rattle.gft_session.specs.declared.settings.TransferType.TheVariants as types
use Rattle.gft_session.specs.declared.settings.Mode.{Mode}
use Rattle.gft_session.specs.declared.settings.Mode.TheVariants as modes
use Rattle.gft_session.specs.declared.settings.DataSide.{DataSide}
use Rattle.gft_session.specs.declared.settings.DataSide.TheVariants as sides
use Rattle.gft_session.specs.declared.settings.Settings.{Settings}

-- the session's side of the data connections
pub data Side (L : Type 0) : Type 0 where
  Nobody : Side L
  Listeners : (lanes : List L) → Side L
  Targets : (places : List HostPort) → Side L

pub record State (L : Type 0) : Type 0 where
  pub login : Login
  pub transfer_type : TransferType
  pub mode : Mode
  pub layout : Layout
  pub parallel : ℕ
  pub side : Side L
  -- the kept REST list
  pub rest : List Range

pub record World (L X : Type 0) : Type 0 where
  pub state : State L
  pub link : LinkState L X

-- what stands round a session and doesn't change
pub record Around (L D : Type 0) : Type 1 where
  -- how many stripes SPAS listens on
  pub stripes : ℕ
  -- for so many stored bytes a marker is due
  pub marker_bytes : ℕ
  -- so many silences end what waits
  pub idle : ℕ
  -- what a lane is
  pub lane : L → LaneState
  -- what is sent of a name
  pub sent : List ℕ → Option Sent
  -- what a drive is
  pub drive : D → DriveState

abbrev pub around_of : {L D : Type 0} → Config → (L → LaneState) → (D → DriveState)
    → (List ℕ → Option Sent) → Around L D
around_of config lane drive sent = record {
  stripes = config.stripes;
  marker_bytes = config.marker_bytes;
  idle = config.idle;
  lane = lane;
  drive = drive;
  sent = sent;
}

abbrev pub start_state : {L : Type 0} → State L
start_state = record {
  login = logins.Nobody;
  transfer_type = types.Ascii;
  mode = modes.Stream;
  layout = layouts.Partitioned;
  parallel = 1;
  side = Nobody;
  rest = [];
}

-- the session at its start, over a link
abbrev pub start_world : {L X : Type 0} → LinkState L X → World L X
start_world link = record { state = start_state; link = link }

-- ---- looks

abbrev pub is_in : Login → Bool
is_in logins.In = true
is_in _ = false

abbrev pub lanes_in : {L : Type 0} → Side L → List L
lanes_in (Listeners lanes) = lanes
lanes_in _ = []

-- the lanes that the session holds
abbrev pub held : {L : Type 0} → State L → List L
held state = lanes_in state.side

-- ---- changes

-- the value that was named, or the one before
abbrev pub or_kept : {A : Type 0} → Option A → A → A
or_kept None kept = kept
or_kept (Some named) kept = named

-- only the named settings change
abbrev pub with_options : {L : Type 0} → State L → RetrOptions → State L
with_options state options =
    record state {
      layout = or_kept options.layout state.layout;
      parallel = or_kept options.parallel state.parallel;
    }

-- the kept REST list is dropped
abbrev pub without_list : {L : Type 0} → State L → State L
without_list state = record state { rest = [] }

-- the list and the lanes or targets are used up
abbrev pub used_up : {L : Type 0} → State L → State L
used_up state = record state { rest = []; side = Nobody }

-- ---- the code's settings

abbrev pub side_of : {L : Type 0} → DataSide L → Side L
side_of sides.Nobody = Nobody
side_of (sides.Listening lanes) = Listeners lanes.items
side_of (sides.Target at) = Targets (at ∷ [])
side_of (sides.Targets places) = Targets places

abbrev pub state_of : {L : Type 0} → Settings L → State L
state_of settings = record {
  login = settings.login;
  transfer_type = settings.transfer_type;
  mode = settings.mode;
  layout = settings.layout;
  parallel = settings.parallel;
  side = side_of settings.side;
  rest = settings.rest.ranges;
}

abbrev pub world : {L X : Type 0} → Settings L → LinkState L X → World L X
world settings link = record { state = state_of settings; link = link }
