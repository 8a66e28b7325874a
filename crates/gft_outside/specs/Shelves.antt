-- What a shelf has, and what its calls do to it.
use Rattle.std.specs.Prelude.{◌≡◌, ◌≢◌, ◌⊎◌, ℕ, List, [], Option, None, Some, IfSome, IsSome}
use Rattle.gft_base.specs.Words.{Rose}
use Rattle.gft_drive.specs.Words.{DriveState, Image, IsBorn, MayLeave}
use Rattle.gft_outside.specs.declared.shelf.ShelfError.{ShelfError}
use Rattle.gft_outside.specs.declared.shelf.ShelfError.TheVariants as error

pub record ShelfState (D : Type 0) : Type 0 where
  -- the drive under each name, if the shelf tells them
  pub drives : Option (List ℕ → Option D)
  -- how often a call failed
  pub faults : ℕ

-- this is what a shelf has under a name; nothing is said if it doesn't tell its drives
abbrev pub HasUnder : {D : Type 0} → ShelfState D → List ℕ → Option D → Type 0
HasUnder shelf name found = IfSome shelf.drives (λ at. at name ≡ found)

-- a shelf tells its drives all its life or never, and all other names have what they had
abbrev pub SameDrives : {D : Type 0} → (List ℕ → Type 0) → Option (List ℕ → Option D)
    → Option (List ℕ → Option D) → Type 0
SameDrives among None None = Unit {0}
SameDrives among None (Some new) = ⊥
SameDrives among (Some old) None = ⊥
SameDrives among (Some old) (Some new) = (name : List ℕ) → among name → new name ≡ old name

abbrev pub SameOthers : {D : Type 0} → ShelfState D → ShelfState D → List ℕ → Type 0
SameOthers old new name = SameDrives (λ other. other ≢ name) old.drives new.drives

-- the drive that the shelf has under a name is handed out, under its label; it tells its contents only if the
-- shelf tells its drives
pub record FindsDrive {D : Type 0} (drive : DriveState) (old new : ShelfState D) (name : List ℕ) (found : D)
    : Type 0 where
  pub had : HasUnder old name (Some found)
  pub gone : HasUnder new name None
  pub others : SameOthers old new name
  pub label : drive.label ≡ name
  pub tells : IsSome drive.contents → IsSome old.drives
  pub faults : new.faults ≡ old.faults

-- there is none
pub record FindsNone {D : Type 0} (old new : ShelfState D) (name : List ℕ) : Type 0 where
  pub had : HasUnder old name None
  pub same : SameDrives (λ any. Unit {0}) old.drives new.drives
  pub faults : new.faults ≡ old.faults

-- a failed call, and no other, raises the count
abbrev pub CountsShelf : ShelfError → ℕ → ℕ → Type 0
CountsShelf error.Failed before now = Rose before now
CountsShelf error.OutOfMemory before now = now ≡ before

pub record NotFound {D : Type 0} (old new : ShelfState D) (name : List ℕ) (error : ShelfError) : Type 0 where
  pub same : SameDrives (λ any. Unit {0}) old.drives new.drives
  pub cause : CountsShelf error old.faults new.faults

-- a drive without a byte, on which nothing was begun, whatever a crash leaves of it
pub record IsNewDrive (drive : DriveState) (name : List ℕ) : Type 0 where
  pub label : drive.label ≡ name
  pub empty : IsSome drive.contents → (image : Image) → MayLeave drive image
      → (image.bytes ≡ []) × (¬ IsBorn image.ranges)
  pub faults : drive.faults ≡ 0

pub record MakesDrive {D : Type 0} (drive : DriveState) (old new : ShelfState D) (name : List ℕ) : Type 0 where
  pub gone : HasUnder new name None
  pub others : SameOthers old new name
  pub fresh : IsNewDrive drive name
  pub faults : new.faults ≡ old.faults

-- under the name there is what there was, or a new drive
pub record NotMade {D : Type 0} (state : D → DriveState) (old new : ShelfState D) (name : List ℕ)
    (error : ShelfError) : Type 0 where
  pub others : SameOthers old new name
  pub under : (SameDrives (λ any. Unit {0}) old.drives new.drives)
      ⊎ (IfSome new.drives (λ at. IfSome (at name) (λ drive. IsNewDrive (state drive) name)))
  pub cause : CountsShelf error old.faults new.faults

pub record RemovesName {D : Type 0} (old new : ShelfState D) (name : List ℕ) : Type 0 where
  pub gone : HasUnder new name None
  pub others : SameOthers old new name
  pub faults : new.faults ≡ old.faults

-- a call failed; under the name there is what there was, or nothing
pub record NotRemoved {D : Type 0} (old new : ShelfState D) (name : List ℕ) : Type 0 where
  pub others : SameOthers old new name
  pub under : (SameDrives (λ any. Unit {0}) old.drives new.drives) ⊎ HasUnder new name None
  pub rose : Rose old.faults new.faults
