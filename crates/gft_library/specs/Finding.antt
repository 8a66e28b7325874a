-- How the Book of a name comes to hand in a call, and why it doesn't.
use Rattle.std.specs.Prelude.{◌≡◌, ◌⊎◌, ℕ, ◌<◌, List, [], length, Some, None}
use Rattle.gft_drive.specs.Words.{DriveState}
use Rattle.gft_keep.specs.declared.AttachError.{AttachError}
use Rattle.gft_keep.specs.declared.AttachError.TheVariants as attach
use Rattle.gft_keep.specs.Words.{Attached, NotAttached, keep_of}
use Rattle.gft_book.specs.declared.begin.BeginError.{BeginError}
use Rattle.gft_book.specs.declared.begin.BeginError.TheVariants as begin
use Rattle.gft_book.specs.declared.usage.Use.TheVariants.{Storing}
use Rattle.gft_book.specs.declared.transfer.Stage.TheVariants.{Rest}
use Rattle.gft_book.specs.Words.{Seen}
use Rattle.gft_outside.specs.declared.shelf.ShelfError.{ShelfError}
use Rattle.gft_outside.specs.declared.shelf.ShelfError.TheVariants as shelf
use Rattle.gft_outside.specs.Words.{FindsDrive, FindsNone, MakesDrive, NotFound, NotMade, ShelfState}
use Rattle.gft_library.specs.declared.TheConstants.{MAX_NAMES}
use Rattle.gft_library.specs.declared.holding.Holding.TheVariants.{AtHand, HandedOut, Unread}
use Rattle.gft_library.specs.declared.error.LibraryError.{LibraryError}
use Rattle.gft_library.specs.declared.error.LibraryError.TheVariants as error
use Rattle.gft_library.specs.declared.seeking.Absent.{Absent}
use Rattle.gft_library.specs.declared.seeking.Absent.TheVariants.{Make, Refuse}
use Rattle.gft_library.specs.Kept.{kept_under}
use Rattle.gft_library.specs.Names.{NamesSeen}

-- ---- refusals of what stands below, as the library names them

abbrev pub of_begin : BeginError → LibraryError
of_begin (begin.Busy found) = error.Busy found
of_begin (begin.Damaged damage) = error.Damaged damage
of_begin (begin.CompleteAlready len) = error.CompleteAlready len
of_begin (begin.NotInJournal missing) = error.NotInJournal missing
of_begin begin.NoSuch = error.NoSuch
of_begin begin.Incomplete = error.Incomplete
of_begin begin.OutOfMemory = error.OutOfMemory
of_begin begin.DriveFailed = error.DriveFailed

abbrev pub of_attach : AttachError → LibraryError
of_attach attach.Failed = error.DriveFailed
of_attach attach.OutOfMemory = error.OutOfMemory
of_attach (attach.Damaged damage) = error.Damaged damage

abbrev pub of_shelf : ShelfError → LibraryError
of_shelf shelf.Failed = error.ShelfFailed
of_shelf shelf.OutOfMemory = error.OutOfMemory

-- ---- a call about a name

-- the names before, and how the traits of their types see a drive and a shelf
pub record Asking (D O S : Type 0) : Type 1 where
  pub drive_state : D → DriveState
  pub shelf_state : S → ShelfState D
  pub old : NamesSeen D O S
  pub name : List ℕ

abbrev pub asking : {D O S : Type 0} → (D → DriveState) → (S → ShelfState D) → NamesSeen D O S → List ℕ
    → Asking D O S
asking drive_state shelf_state old name = record {
  drive_state = drive_state;
  shelf_state = shelf_state;
  old = old;
  name = name;
}

-- nothing changes
pub record Unchanged {D O S : Type 0} (call : Asking D O S) (new : NamesSeen D O S) : Type 0 where
  pub under : kept_under new.kept call.name ≡ kept_under call.old.kept call.name
  pub shelf : new.shelf ≡ call.old.shelf

-- nothing is kept under the name, though there is room for it
pub record IsNowhere {D O S : Type 0} (call : Asking D O S) : Type 0 where
  pub none : kept_under call.old.kept call.name ≡ None
  pub room : length call.old.kept < MAX_NAMES

-- ---- the shelf

-- it has the drive of a name, or makes it where that is to be
abbrev pub Seeks : {D S : Type 0} → (D → DriveState) → (S → ShelfState D) → Absent → S → S → List ℕ → D
    → Type 0
Seeks {S = S} state shelf absent old new name drive =
    FindsDrive (state drive) (shelf old) (shelf new) name drive
    ⊎ ((absent ≡ Make) × ((before : S) × FindsNone (shelf old) (shelf before) name
    × MakesDrive (state drive) (shelf before) (shelf new) name))

-- it refuses to look for it; has none, and is not to make it; or refuses to make it
abbrev pub SeeksNot : {D S : Type 0} → (D → DriveState) → (S → ShelfState D) → Absent → S → S → List ℕ
    → LibraryError → Type 0
SeeksNot {S = S} state shelf absent old new name why =
    ((error : ShelfError) × (why ≡ of_shelf error) × NotFound (shelf old) (shelf new) name error)
    ⊎ ((absent ≡ Refuse why) × FindsNone (shelf old) (shelf new) name)
    ⊎ ((absent ≡ Make) × ((before : S) × FindsNone (shelf old) (shelf before) name
    × ((error : ShelfError) × (why ≡ of_shelf error) × NotMade state (shelf before) (shelf new) name error)))

-- ---- a drive

-- a Book on which nothing was begun, over a drive that was attached now
pub record IsOpenedOn {D : Type 0} (state : D → DriveState) (drive : D) (book : Seen D) : Type 0 where
  pub attached : Attached (state drive) (keep_of state book.keep)
  pub untouched : book ≡ record {
    keep = book.keep;
    stage = Rest;
    last = None;
    marks = [];
    unmarked = 0;
    turns = 0;
  }

-- a drive that could not be attached
pub record NotOpenedOn {D : Type 0} (state : D → DriveState) (drive : D) (why : LibraryError) (later : D)
    : Type 0 where
  pub error : AttachError
  pub is : why ≡ of_attach error
  pub refused : NotAttached (state drive) error (state later)

-- a drive that isn't attached: it is kept, or the shelf, which is so then, gives it
abbrev pub HasDrive : {D O S : Type 0} → Asking D O S → Absent → S → D → Type 0
HasDrive call absent now drive =
    ((kept_under call.old.kept call.name ≡ Some (Unread drive)) × (now ≡ call.old.shelf))
    ⊎ (IsNowhere call × Seeks call.drive_state call.shelf_state absent call.old.shelf now call.name drive)

-- ---- the Book comes to hand

-- it is kept, or its drive is attached now
abbrev pub Comes : {D O S : Type 0} → Asking D O S → Absent → S → Seen D → Type 0
Comes {D = D} call absent now book =
    ((kept_under call.old.kept call.name ≡ Some (AtHand book)) × (now ≡ call.old.shelf))
    ⊎ ((drive : D) × HasDrive call absent now drive × IsOpenedOn call.drive_state drive book)

-- ---- it doesn't

-- want of memory before anything was done
pub record IsWant {D O S : Type 0} (call : Asking D O S) (new : NamesSeen D O S) (why : LibraryError)
    : Type 0 where
  pub is : why ≡ error.OutOfMemory
  pub unchanged : Unchanged call new

-- the Book is handed out
pub record IsHandedOut {D O S : Type 0} (call : Asking D O S) (new : NamesSeen D O S) (why : LibraryError)
    : Type 0 where
  pub handed : kept_under call.old.kept call.name ≡ Some HandedOut
  pub is : why ≡ error.Busy Storing
  pub unchanged : Unchanged call new

-- as many names are kept as may be, and this is none of them
pub record IsOneTooMany {D O S : Type 0} (call : Asking D O S) (new : NamesSeen D O S) (why : LibraryError)
    : Type 0 where
  pub none : kept_under call.old.kept call.name ≡ None
  pub many : length call.old.kept ≡ MAX_NAMES
  pub is : why ≡ error.TooManyNames
  pub unchanged : Unchanged call new

-- the shelf gives no drive, and nothing is kept under the name
pub record IsNotGiven {D O S : Type 0} (call : Asking D O S) (absent : Absent) (new : NamesSeen D O S)
    (why : LibraryError) : Type 0 where
  pub nowhere : IsNowhere call
  pub refused : SeeksNot call.drive_state call.shelf_state absent call.old.shelf new.shelf call.name why
  pub none : kept_under new.kept call.name ≡ None

-- a drive could not be attached, and is kept
pub record IsNotOpened {D O S : Type 0} (call : Asking D O S) (absent : Absent) (new : NamesSeen D O S)
    (why : LibraryError) : Type 0 where
  pub drive : D
  pub has : HasDrive call absent new.shelf drive
  pub later : D
  pub refused : NotOpenedOn call.drive_state drive why later
  pub stays : kept_under new.kept call.name ≡ Some (Unread later)

-- before a drive is there
abbrev pub IsBarred : {D O S : Type 0} → Asking D O S → Absent → NamesSeen D O S → LibraryError → Type 0
IsBarred call absent new why =
    IsWant call new why ⊎ IsOneTooMany call new why ⊎ IsNotGiven call absent new why

abbrev pub IsKeptFrom : {D O S : Type 0} → Asking D O S → Absent → NamesSeen D O S → LibraryError → Type 0
IsKeptFrom call absent new why =
    IsBarred call absent new why ⊎ IsHandedOut call new why ⊎ IsNotOpened call absent new why
