-- What a drive over a generated file shows.
use Rattle.std.specs.Prelude.{◌≡◌, ℕ, Bool, true, List, [], length, None}
use Rattle.gft_drive.specs.Words.{DriveState, IsLawful}
use Rattle.gft_generated.specs.Generator.{generated}

pub record OnGenerator : Type 0 where
  -- the file is that of this seed
  pub seed : ℕ
  -- how many bytes it has so far
  pub len : ℕ
  -- the bytes of the Ranges part
  pub ranges : List ℕ
  -- a byte was written that isn't the file's
  pub differs : Bool

-- it tells no content, and no call of it fails
abbrev pub generated_state : OnGenerator → DriveState
generated_state drive = record {
  label = [];
  contents = None;
  moment = 0;
  left_since = λ t image. Unit {0};
  faults = 0;
}

pub generated_lawful : (drive : OnGenerator) → IsLawful (generated_state drive)
generated_lawful drive = record { since = λ t u image le within left. tt; read = λ image told. tt }

-- bytes were written at this place: the drive notes whether they are other bytes than the file's there
pub record Compares (at : ℕ) (bytes : List ℕ) (old new : OnGenerator) : Type 0 where
  pub seed : new.seed ≡ old.seed
  pub ranges : new.ranges ≡ old.ranges
  pub equal : bytes ≡ generated old.seed at (length bytes) → new.differs ≡ old.differs
  pub other : ¬ (bytes ≡ generated old.seed at (length bytes)) → new.differs ≡ true
