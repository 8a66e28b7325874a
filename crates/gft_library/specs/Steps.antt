-- What the private calls do to what is kept under one name.
use Rattle.std.specs.Prelude.{◌≡◌, ◌⊎◌, ℕ, List, Option, None, Some}
use Rattle.gft_drive.specs.Words.{DriveState, Sent}
use Rattle.gft_book.specs.declared.usage.Use.TheVariants as use_of
use Rattle.gft_book.specs.Words.{Seen}
use Rattle.gft_library.specs.declared.holding.Holding.{Holding}
use Rattle.gft_library.specs.declared.holding.Holding.TheVariants.{AtHand, HandedOut, Unread}
use Rattle.gft_library.specs.declared.error.LibraryError.{LibraryError}
use Rattle.gft_library.specs.declared.error.LibraryError.TheVariants as error
use Rattle.gft_library.specs.declared.seeking.Absent.{Absent}
use Rattle.gft_library.specs.Finding.{Asking, Comes, IsBarred, IsNowhere, IsOpenedOn, NotOpenedOn, Seeks}
use Rattle.gft_library.specs.Calls.{IsInUse, MayGo, unless_there}
use Rattle.gft_library.specs.Kept.{kept_under}
use Rattle.gft_library.specs.Names.{DriveIsFrom, IsOwn, NamesSeen}

-- a drive that is kept is from the source, as each Book is
abbrev pub HasSource : {D O : Type 0} → (D → DriveState) → (List ℕ → Option Sent) → Holding D O → Type 0
HasSource state sent (Unread drive) = DriveIsFrom sent (state drive)
HasSource state sent other = Unit {0}

-- what is a name's own stays so
abbrev pub StaysOwn : {D O : Type 0} → (D → DriveState) → (List ℕ → Option Sent) → Holding D O → Holding D O
    → Type 0
StaysOwn state sent old new = (name : List ℕ) → IsOwn state sent name old → IsOwn state sent name new

-- the Book is there, or its drive is attached
abbrev pub Opens : {D O : Type 0} → (D → DriveState) → Holding D O → Seen D → Type 0
Opens state (AtHand at_hand) book = book ≡ at_hand
Opens state HandedOut book = ⊥
Opens state (Unread drive) book = IsOpenedOn state drive book

-- it isn't, and this is to be kept
abbrev pub OpensNot : {D O : Type 0} → (D → DriveState) → Holding D O → LibraryError → Holding D O → Type 0
OpensNot state (AtHand at_hand) why left = ⊥
OpensNot state HandedOut why left = (why ≡ error.Busy use_of.Storing) × (left ≡ HandedOut)
OpensNot {D = D} state (Unread drive) why left =
    (later : D) × (left ≡ Unread later) × NotOpenedOn state drive why later

-- the drive of a name that was nowhere is there
pub record AdmitsNew {D O S : Type 0} (call : Asking D O S) (absent : Absent) (new : NamesSeen D O S)
    (drive : D) : Type 0 where
  pub nowhere : IsNowhere call
  pub given : Seeks call.drive_state call.shelf_state absent call.old.shelf new.shelf call.name drive
  pub stands : kept_under new.kept call.name ≡ Some HandedOut

-- what was kept under the name is taken, or its drive is
abbrev pub Takes : {D O S : Type 0} → Asking D O S → Absent → S → Holding D O → Type 0
Takes {D = D} call absent now holding =
    ((kept_under call.old.kept call.name ≡ Some holding) × (now ≡ call.old.shelf))
    ⊎ ((drive : D) × (holding ≡ Unread drive) × IsNowhere call
    × Seeks call.drive_state call.shelf_state absent call.old.shelf now call.name drive)

pub record Admits {D O S : Type 0} (call : Asking D O S) (absent : Absent) (new : NamesSeen D O S)
    (holding : Holding D O) : Type 0 where
  pub takes : Takes call absent new.shelf holding
  pub stands : kept_under new.kept call.name ≡ Some HandedOut

-- the name's Book is taken
pub record Brings {D O S : Type 0} (call : Asking D O S) (absent : Absent) (new : NamesSeen D O S)
    (book : Seen D) : Type 0 where
  pub comes : Comes call absent new.shelf book
  pub stands : kept_under new.kept call.name ≡ Some HandedOut

-- nothing is kept under a name that may go
pub record Frees {D O S : Type 0} (call : Asking D O S) (new : NamesSeen D O S) : Type 0 where
  pub may : MayGo call new.shelf
  pub gone : kept_under new.kept call.name ≡ None

abbrev pub IsNotFreed : {D O S : Type 0} → Asking D O S → NamesSeen D O S → LibraryError → Type 0
IsNotFreed call new why = IsBarred call unless_there new why ⊎ IsInUse call new why
