-- What contracts see of the names, and what is true of them.
use Rattle.std.specs.Prelude.{◌≡◌, ℕ, ◌≤◌, List, length, Option, IfSome, IsSome}
use Rattle.gft_drive.specs.Words.{DriveState, Image, MayLeave, Sent}
use Rattle.gft_keep.specs.Words.{keep_of}
use Rattle.gft_book.specs.Words.{IsFrom}
use Rattle.gft_outside.specs.Words.{ShelfState}
use Rattle.gft_library.specs.declared.TheConstants.{MAX_NAMES}
use Rattle.gft_library.specs.declared.holding.Holding.{Holding}
use Rattle.gft_library.specs.declared.holding.Holding.TheVariants.{AtHand, HandedOut, Unread}
use Rattle.gft_library.specs.declared.list.KeptName.{KeptName}
use Rattle.gft_library.specs.Kept.{kept_under}

pub record NamesSeen (D O S : Type 0) : Type 0 where
  pub shelf : S
  pub kept : List (KeptName (Holding D O))

-- if the origin names a source for the drive's label, the drive has bytes of it alone
abbrev pub DriveIsFrom : (List ℕ → Option Sent) → DriveState → Type 0
DriveIsFrom sent drive =
    IfSome (sent drive.label) (λ s. IsSome drive.contents
    → (image : Image) → MayLeave drive image → IsFrom s.source image)

-- so has each drive on the shelf, if the shelf tells them
abbrev pub ShelfIsFrom : {D : Type 0} → (D → DriveState) → (List ℕ → Option Sent) → ShelfState D → Type 0
ShelfIsFrom state sent shelf =
    IfSome shelf.drives (λ at. (name : List ℕ) → IfSome (at name) (λ drive. DriveIsFrom sent (state drive)))

abbrev pub IsOwnDrive : (List ℕ → Option Sent) → List ℕ → DriveState → Type 0
IsOwnDrive sent name drive = (drive.label ≡ name) × DriveIsFrom sent drive

-- what is kept under a name has it for its label; a drive is from the source, as each Book is
abbrev pub IsOwn : {D O : Type 0} → (D → DriveState) → (List ℕ → Option Sent) → List ℕ → Holding D O → Type 0
IsOwn state sent name (AtHand book) = (keep_of state book.keep).drive.label ≡ name
IsOwn state sent name HandedOut = Unit {0}
IsOwn state sent name (Unread drive) = IsOwnDrive sent name (state drive)

-- what is true of all names
pub record AreNames {D O S : Type 0} (drive_state : D → DriveState) (shelf_state : S → ShelfState D)
    (sent : List ℕ → Option Sent) (names : NamesSeen D O S) : Type 0 where
  pub few : length names.kept ≤ MAX_NAMES
  pub own : (name : List ℕ) → IfSome (kept_under names.kept name) (IsOwn drive_state sent name)
  pub shelf : ShelfIsFrom drive_state sent (shelf_state names.shelf)
