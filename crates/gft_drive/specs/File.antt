-- What a drive over a file shows.
use Rattle.std.specs.Prelude.{ℕ, List, None}
use Rattle.gft_drive.specs.Drive.{DriveState, IsLawful}

pub record OnFile : Type 0 where
  -- its path
  pub label : List ℕ
  pub faults : ℕ

-- it tells nothing: any image may be left
abbrev pub file_state : OnFile → DriveState
file_state drive = record {
  label = drive.label;
  contents = None;
  moment = 0;
  left_since = λ t image. Unit {0};
  faults = drive.faults;
}

pub file_lawful : (drive : OnFile) → IsLawful (file_state drive)
file_lawful drive = record { since = λ t u image le within left. tt; read = λ image told. tt }
