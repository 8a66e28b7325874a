-- What is true of every keep: what a crash may leave of it, by how it stands.
use Rattle.std.specs.Prelude.{◌≡◌, ◌⊎◌, ◌↔◌, ℕ, ◌-◌, ◌<◌, ◌≤◌, List, length, Some, None, IfSome, true, IsTrue}
use Rattle.std.specs.Prelude.{slice_index}
use Rattle.gft_base.specs.declared.TheConstants.{LIMIT}
use Rattle.gft_range.specs.Words.{HasOffset, InRange, IsNormal}
use Rattle.gft_drive.specs.declared.TheConstants.{MAX_RANGES}
use Rattle.gft_drive.specs.Words.{Covers, DriveState, Elapses, Image, IsBorn, IsComplete, IsLawful, LeavesBy}
use Rattle.gft_journal.specs.Words.{IsJournalOf}
use Rattle.gft_keep.specs.declared.standing.Standing.{Standing}
use Rattle.gft_keep.specs.declared.standing.Standing.TheVariants.{Whole, Emptying, Torn}
use Rattle.gft_keep.specs.Image.{Holds, IsSound}
use Rattle.gft_keep.specs.State.{EachImage, IsWhole, KeepState}
use Rattle.gft_keep.specs.Steps.{NamesNone, block_of}

-- the image is what a read gives, and stands for exactly what is kept
pub record IsExact (keep : KeepState) (image : Image) : Type 0 where
  pub read : keep.drive.contents ≡ Some image
  pub ranges : (x : ℕ) → Covers image.ranges x ↔ HasOffset keep.ranges x
  pub complete : (len : ℕ) → IsComplete image.ranges len ↔ (keep.complete ≡ Some len)
  pub born : IsBorn image.ranges ↔ IsTrue keep.is_born
  pub sound : IsSound image

-- a crash leaves what a read gives, and the journal is that of the drive
pub record StandsWhole (keep : KeepState) : Type 0 where
  pub journal : IsJournalOf keep.journal keep.drive
  pub each : EachImage keep (IsExact keep)

-- the image names each kept offset
abbrev pub HasKept : KeepState → Image → Type 0
HasKept keep image = (x : ℕ) → HasOffset keep.ranges x → Covers image.ranges x

-- the image names nothing, or all that is kept
pub record IsEmptying (keep : KeepState) (image : Image) : Type 0 where
  pub sound : IsSound image
  pub either : NamesNone image ⊎ HasKept keep image

-- the image holds what is kept, with the byte that a read gives; what else it names is of this block
pub record IsTorn (keep : KeepState) (offset : ℕ) (bytes : List ℕ) (image : Image) : Type 0 where
  pub sound : IsSound image
  pub kept : (read : Image) → keep.drive.contents ≡ Some read → (x : ℕ) → HasOffset keep.ranges x
      → Holds image x (slice_index read.bytes x)
  pub added : (x : ℕ) → Covers image.ranges x → HasOffset keep.ranges x
      ⊎ (InRange (block_of offset bytes) x × Holds image x (slice_index bytes (x - offset)))

-- what a crash may leave
abbrev pub StandsAs : Standing → KeepState → Type 0
StandsAs Whole keep = StandsWhole keep
StandsAs Emptying keep = EachImage keep (IsEmptying keep)
StandsAs Torn keep = (offset : ℕ) × (bytes : List ℕ) × EachImage keep (IsTorn keep offset bytes)

-- what holds of every keep, broken or not
pub record IsKeep (keep : KeepState) : Type 0 where
  pub lawful : IsLawful keep.drive
  pub normal : IsNormal keep.ranges
  pub few : length keep.ranges ≤ MAX_RANGES
  pub in_limit : (x : ℕ) → HasOffset keep.ranges x → x < LIMIT
  pub complete : IfSome keep.complete (λ len. len ≤ LIMIT)
  pub stands : StandsAs keep.standing keep

-- a keep that no failed call broke
pub record IsUnbroken (keep : KeepState) : Type 0 where
  pub whole : IsWhole keep
  pub facts : IsKeep keep

-- a keep that takes blocks
pub record IsOpen (keep : KeepState) : Type 0 where
  pub unbroken : IsUnbroken keep
  pub born : keep.is_born ≡ true
  pub incomplete : keep.complete ≡ None

-- a keep stays one, time goes on, and each image since comes by this step from one that a crash might
-- have left before
pub record MovesBy (step : Image → Image → Type 0) (old new : KeepState) : Type 0 where
  pub keep : IsKeep new
  pub any_moment : LeavesBy step old.drive new.drive
  pub time : Elapses old.drive new.drive
