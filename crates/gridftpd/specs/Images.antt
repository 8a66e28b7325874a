-- What the drive holds when `drain` ends, and what a crash may leave of it then.
use Rattle.std.specs.Prelude.{◌≡◌, ◌⊎◌, ◌↔◌, ℕ, ◌<◌, ◌≤◌, List, ◌++◌, length, Some, IsSome}
use Rattle.gft_drive.specs.Words.{Covers, DriveState, Image, IsComplete, LeavesBy, MayLeave}
use Rattle.gft_core.specs.Words.{Done, kept}
use Rattle.gft_core.specs.declared.CoreEvent.{CoreEvent}
use Rattle.gft_journal.specs.declared.Damage.{Damage}
use Rattle.gft_keep.specs.Words.{Empties, Holds, IsDamagedBy, IsSound}
use Rattle.gridftpd.specs.Cause.{told_by}
use Rattle.gridftpd.specs.Events.{events_of, IsKept}
use Rattle.gridftpd.specs.declared.reading.TheConstants.{READ_LEN}
use Rattle.gridftpd.specs.declared.outcome.Outcome.{Outcome}
use Rattle.gridftpd.specs.declared.outcome.Outcome.TheVariants as outcome

-- it holds of what a read gives and of each image that a crash now may leave, if the drive tells its contents
abbrev pub OfEach : DriveState → (Image → Type 0) → Type 0
OfEach drive P =
    (image : Image) → (drive.contents ≡ Some image) ⊎ (IsSome drive.contents × MayLeave drive image) → P image

-- the data is the kept bytes and no byte more, and complete: the ranges are all its offsets
pub record IsWholeFile (events : List CoreEvent) (image : Image) : Type 0 where
  pub bytes : IsKept events image.bytes
  pub complete : IsComplete image.ranges (length image.bytes)
  pub ranges : (x : ℕ) → Covers image.ranges x ↔ (x < length image.bytes)

-- the transfer is done, and its file stands on the drive, over a crash too
pub record IsStored (stream : List ℕ) (drive : DriveState) : Type 0 where
  pub done : Done (events_of (told_by stream))
  pub file : OfEach drive (IsWholeFile (events_of (told_by stream)))

-- no damage; each byte that arrived in the front is held as it was kept first, and what else is named arrived
-- in the stream and is held so too
pub record HoldsArrived (front stream : List ℕ) (image : Image) : Type 0 where
  pub sound : IsSound image
  pub held : (x v : ℕ) → kept (events_of (told_by front)) x ≡ Some v → Holds image x v
  pub named : (x : ℕ) → Covers image.ranges x
      → (v : ℕ) × (kept (events_of (told_by stream)) x ≡ Some v) × Holds image x v

-- all is held but what arrived in the last piece, of which some may be
pub record HoldsAllButLast (stream : List ℕ) (drive : DriveState) : Type 0 where
  pub front : List ℕ
  pub piece : List ℕ
  pub split : stream ≡ front ++ piece
  pub one_read : length piece ≤ READ_LEN
  pub each : OfEach drive (HoldsArrived front stream)

-- what is held where an intake was begun
abbrev pub HoldsTaken : Outcome → List ℕ → DriveState → Type 0
HoldsTaken outcome.TooLong stream new = HoldsAllButLast stream new
HoldsTaken (outcome.RangesFull kept) stream new = HoldsAllButLast stream new
HoldsTaken outcome.DriveFailed stream new = HoldsAllButLast stream new
HoldsTaken outcome.OutOfMemory stream new = HoldsAllButLast stream new
HoldsTaken other stream new = OfEach new (HoldsArrived stream stream)

-- what is held at the end: a drive that is damaged, or refused before it was emptied, has its images of
-- before, and one that failed to be emptied those or none of their ranges
abbrev pub HoldsAtEnd : Outcome → List ℕ → DriveState → DriveState → Type 0
HoldsAtEnd outcome.Damaged stream old new = LeavesBy (λ from image. image ≡ from) old new
HoldsAtEnd outcome.DriveFailed stream old new = LeavesBy Empties old new ⊎ HoldsAllButLast stream new
HoldsAtEnd outcome.OutOfMemory stream old new =
    LeavesBy (λ from image. image ≡ from) old new ⊎ HoldsAllButLast stream new
HoldsAtEnd other stream old new = HoldsTaken other stream new

-- whether what a read gives at first is damaged: so it is where that is answered, and isn't where the drive
-- is read
abbrev pub FindsDamage : Outcome → DriveState → Type 0
FindsDamage outcome.Damaged old = (read : Image) → old.contents ≡ Some read
    → (¬ IsSound read) × ((damage : Damage) × IsDamagedBy damage read)
FindsDamage outcome.DriveFailed old = Unit {0}
FindsDamage outcome.OutOfMemory old = Unit {0}
FindsDamage other old = (read : Image) → old.contents ≡ Some read → IsSound read
