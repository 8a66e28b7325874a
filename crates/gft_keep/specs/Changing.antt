-- What `fresh`, `resume` and `finish` do to a drive whose journal stands, by what a read gave before.
use Rattle.std.specs.Prelude.{◌≡◌, ◌↔◌, ◌<◌, ◌≤◌, ℕ, Bool, false, Some}
use Rattle.gft_drive.specs.declared.Part.TheVariants.{Bytes}
use Rattle.gft_drive.specs.Words.{Covers, DriveState, Image, IsBorn, IsComplete, IsSynced, ReadsBy}
use Rattle.gft_journal.specs.Words.{IsJournalOf}
use Rattle.gft_journal.specs.declared.Journal.{Journal}
use Rattle.gft_keep.specs.Image.{IsSound}
use Rattle.gft_keep.specs.Steps.{Empties, Finishes, HasFinished, Reopens}

-- the journal stands, a crash leaves what a read gives, and that has no damage
pub record IsReady (journal : Journal) (drive : DriveState) : Type 0 where
  pub stands : IsJournalOf journal drive
  pub synced : IsSynced Bytes drive
  pub sound : (read : Image) → drive.contents ≡ Some read → IsSound read

-- and what a read gives came by this step
pub record ReadyBy (step : Image → Image → Type 0) (journal : Journal) (old new : DriveState) : Type 0 where
  pub ready : IsReady journal new
  pub read : ReadsBy step old new

-- a step to an image without damage
pub record Soundly (step : Image → Image → Type 0) (from image : Image) : Type 0 where
  pub done : step from image
  pub sound : IsSound image

abbrev pub EmptiesSoundly : Image → Image → Type 0
EmptiesSoundly from image = Soundly Empties from image

abbrev pub ReopensSoundly : Image → Image → Type 0
ReopensSoundly from image = Soundly Reopens from image

abbrev pub FinishesSoundly : ℕ → Image → Image → Type 0
FinishesSoundly len from image = Soundly (Finishes len) from image

-- no mark only if what a read gives isn't complete
abbrev pub IsMarked : Bool → DriveState → Type 0
IsMarked marked drive = marked ≡ false → (read : Image) → drive.contents ≡ Some read
    → (len : ℕ) → ¬ IsComplete read.ranges len

-- the mark is gone, and the file is born
pub record IsReopened (from image : Image) : Type 0 where
  pub reopens : Reopens from image
  pub incomplete : (len : ℕ) → ¬ IsComplete image.ranges len
  pub born : IsBorn image.ranges

-- exactly these offsets are kept, and no greater length is complete
pub record MayFinish (len : ℕ) (drive : DriveState) : Type 0 where
  pub exact : (read : Image) → drive.contents ≡ Some read → (x : ℕ) → Covers read.ranges x ↔ (x < len)
  pub mark : (read : Image) → drive.contents ≡ Some read → (n : ℕ) → IsComplete read.ranges n → n ≤ len

-- the file is complete with this length
pub record IsFinished (len : ℕ) (from image : Image) : Type 0 where
  pub finished : HasFinished len from image
  pub complete : (n : ℕ) → IsComplete image.ranges n ↔ (len ≡ n)
