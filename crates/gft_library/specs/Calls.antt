-- What the calls of the names do.
use Rattle.std.specs.Prelude.{◌≡◌, ◌⊎◌, ℕ, List, [], ◌∷◌, Option, None, Some, IsSome, option_map}
use Rattle.atomic_table.specs.Seated.{TableId}
use Rattle.gft_range.specs.declared.Range.{Range}
use Rattle.gft_drive.specs.Words.{DriveState, Sent}
use Rattle.gft_keep.specs.Words.{drive_of, keep_of}
use Rattle.gft_pass.specs.Words.{Lane}
use Rattle.gft_book.specs.declared.begin.BeginError.{BeginError}
use Rattle.gft_book.specs.declared.transfer.Stage.{Stage}
use Rattle.gft_book.specs.declared.transfer.Stage.TheVariants.{Rest}
use Rattle.gft_book.specs.declared.usage.How.{How}
use Rattle.gft_book.specs.declared.usage.How.TheVariants.{Resume}
use Rattle.gft_book.specs.declared.usage.Use.{Use}
use Rattle.gft_book.specs.declared.usage.Use.TheVariants as use_of
use Rattle.gft_book.specs.Words.{BeginsIn, BeginsRead, BeginsStore, BookState, IsFound, IsReadable}
use Rattle.gft_book.specs.Words.{KeepsUnlessFresh, NotBegun, NotRead, OnlyReads, Seen, SettledFile, book_of}
use Rattle.gft_book.specs.Words.{known_of, one_reader_fewer, one_reader_more, usage_of}
use Rattle.gft_outside.specs.Words.{NotRemoved, RemovesName}
use Rattle.gft_library.specs.declared.answer.Word.{Word}
use Rattle.gft_library.specs.declared.answer.Word.TheVariants as word
use Rattle.gft_library.specs.declared.holding.Holding.{Holding}
use Rattle.gft_library.specs.declared.holding.Holding.TheVariants.{AtHand, HandedOut, Unread}
use Rattle.gft_library.specs.declared.error.LibraryError.{LibraryError}
use Rattle.gft_library.specs.declared.error.LibraryError.TheVariants as error
use Rattle.gft_library.specs.declared.seeking.Absent.{Absent}
use Rattle.gft_library.specs.declared.seeking.Absent.TheVariants.{Make, Refuse}
use Rattle.gft_library.specs.Finding.{Asking, Comes, HasDrive, IsBarred, IsKeptFrom, Unchanged, of_begin}
use Rattle.gft_library.specs.Kept.{kept_under}
use Rattle.gft_library.specs.Names.{NamesSeen}

-- a call of a Book that came to hand, and stays so
abbrev pub ByBook : {D O S : Type 0} → Asking D O S → Absent → NamesSeen D O S → (Seen D → Seen D → Type 0)
    → Type 0
ByBook {D = D} call absent new does =
    (book now : Seen D) × Comes call absent new.shelf book
    × (kept_under new.kept call.name ≡ Some (AtHand now)) × does book now

-- ---- reading

-- a reader could begin, and has ended again: the file has so many bytes
pub record TellsLength (sent : List ℕ → Option Sent) (old new : BookState) (len : ℕ) : Type 0 where
  pub more : IsSome (one_reader_more old.stage)
  pub stage : new.stage ≡ old.stage
  pub found : IsFound old.keep (known_of new.keep)
  pub readable : IsReadable sent new.keep len
  pub only : OnlyReads old new
  pub faults : new.keep.drive.faults ≡ old.keep.drive.faults

-- a reader begins, with so many drives of its own
abbrev pub LendsFile : {D : Type 0} → (D → DriveState) → (List ℕ → Option Sent) → ℕ → List D → ℕ
    → Seen D → Seen D → Type 0
LendsFile state sent count drives len book now =
    BeginsRead state sent (book_of state book) (book_of state now) count drives len
    × OnlyReads (book_of state book) (book_of state now)

-- a reader doesn't begin, for this
abbrev pub RefusesReader : {D : Type 0} → (D → DriveState) → LibraryError → Seen D → Seen D → Type 0
RefusesReader state why book now =
    (error : BeginError) × (why ≡ of_begin error)
    × NotRead (now ≡ book) (book_of state book) (book_of state now) error
    × OnlyReads (book_of state book) (book_of state now)

-- the call refuses a name that is nowhere
abbrev pub unless_there : Absent
unless_there = Refuse error.NoSuch

abbrev pub IsNotRead : {D O S : Type 0} → Asking D O S → NamesSeen D O S → LibraryError → Type 0
IsNotRead call new why =
    IsKeptFrom call unless_there new why
    ⊎ ByBook call unless_there new (RefusesReader call.drive_state why)

-- what `size` answers
abbrev pub SizesName : {D O S : Type 0} → (List ℕ → Option Sent) → Asking D O S → NamesSeen D O S → Word
    → Type 0
SizesName sent call new (word.Length len) =
    ByBook call unless_there new
    (λ book now. TellsLength sent (book_of call.drive_state book) (book_of call.drive_state now) len)
SizesName sent call new (word.No why) = IsNotRead call new why
SizesName sent call new other = ⊥

-- a reader ends, if the Book is at hand
abbrev pub with_reader_fewer : {D O : Type 0} → Holding D O → Holding D O
with_reader_fewer (AtHand book) = AtHand (record book { stage = one_reader_fewer book.stage })
with_reader_fewer other = other

pub record EndsReader {D O S : Type 0} (call : Asking D O S) (new : NamesSeen D O S) : Type 0 where
  pub under : kept_under new.kept call.name
      ≡ option_map with_reader_fewer (kept_under call.old.kept call.name)
  pub shelf : new.shelf ≡ call.old.shelf

-- ---- storing

-- a transfer begins on the Book
abbrev pub BeginsTransfer : {D : Type 0} → (D → DriveState) → How → ℕ → List Lane → Seen D → Seen D → Type 0
BeginsTransfer state how lanes passes book now =
    BeginsStore (book_of state book) (book_of state now) how lanes passes
    × BeginsIn (book_of state book) (book_of state now)
    × KeepsUnlessFresh how (keep_of state book.keep) (keep_of state now.keep)

-- a transfer doesn't begin, for this
abbrev pub RefusesTransfer : {D : Type 0} → (D → DriveState) → How → LibraryError → Seen D → Seen D → Type 0
RefusesTransfer state how why book now =
    (error : BeginError) × (why ≡ of_begin error)
    × NotBegun (now ≡ book) (book_of state book) (book_of state now) how error
    × BeginsIn (book_of state book) (book_of state now)
    × KeepsUnlessFresh how (keep_of state book.keep) (keep_of state now.keep)

-- the first range of a list, which a file that is nowhere lacks
abbrev pub lacks_first : List Range → LibraryError
lacks_first [] = error.NoSuch
lacks_first (first ∷ rest) = error.NotInJournal first

-- a name that is nowhere is made, but for a restart
abbrev pub absent_for : How → Absent
absent_for (Resume list) = Refuse (lacks_first list.ranges)
absent_for other = Make

-- the Book is handed out with a transfer that began on it
abbrev pub StoresName : {D O S : Type 0} → Asking D O S → How → ℕ → NamesSeen D O S → List Lane → Seen D
    → Type 0
StoresName {D = D} call how lanes new passes now =
    (book : Seen D) × Comes call (absent_for how) new.shelf book
    × (kept_under new.kept call.name ≡ Some HandedOut)
    × BeginsTransfer call.drive_state how lanes passes book now

abbrev pub IsNotStored : {D O S : Type 0} → Asking D O S → How → NamesSeen D O S → LibraryError → Type 0
IsNotStored call how new why =
    IsKeptFrom call (absent_for how) new why
    ⊎ ByBook call (absent_for how) new (RefusesTransfer call.drive_state how why)

-- the file is of the transfer that the Book settled last
abbrev pub IsOfLastTransfer : Option TableId → SettledFile → Type 0
IsOfLastTransfer last file = last ≡ Some file.numbers.table

-- a Book comes back; if none is handed out, it is dropped
abbrev pub with_book : {D O : Type 0} → Seen D → Holding D O → Holding D O
with_book book HandedOut = AtHand book
with_book book other = other

pub record TakesBookBack {D O S : Type 0} (call : Asking D O S) (new : NamesSeen D O S) (book : Seen D)
    : Type 0 where
  pub under : kept_under new.kept call.name ≡ option_map (with_book book) (kept_under call.old.kept call.name)
  pub shelf : new.shelf ≡ call.old.shelf

-- ---- removing

abbrev pub use_in : Stage → Option Use
use_in Rest = None
use_in other = Some (usage_of other)

-- how the file is used, unless it is at rest
abbrev pub in_use : {D O : Type 0} → Holding D O → Option Use
in_use (AtHand book) = use_in book.stage
in_use HandedOut = Some use_of.Storing
in_use (Unread drive) = None

-- the name may go: its file is kept and at rest, or the shelf, which is so then, had its drive
abbrev pub MayGo : {D O S : Type 0} → Asking D O S → S → Type 0
MayGo {D = D} {O = O} call now =
    ((holding : Holding D O) × (kept_under call.old.kept call.name ≡ Some holding) × (in_use holding ≡ None)
    × (now ≡ call.old.shelf))
    ⊎ ((drive : D) × HasDrive call unless_there now drive)

pub record RemovesKept {D O S : Type 0} (call : Asking D O S) (new : NamesSeen D O S) : Type 0 where
  pub before : S
  pub may : MayGo call before
  pub gone : kept_under new.kept call.name ≡ None
  pub removed : RemovesName (call.shelf_state before) (call.shelf_state new.shelf) call.name

-- the shelf failed to remove it; nothing is kept under the name then
pub record FailsToRemove {D O S : Type 0} (call : Asking D O S) (new : NamesSeen D O S) (why : LibraryError)
    : Type 0 where
  pub before : S
  pub may : MayGo call before
  pub gone : kept_under new.kept call.name ≡ None
  pub failed : NotRemoved (call.shelf_state before) (call.shelf_state new.shelf) call.name
  pub is : why ≡ error.ShelfFailed

-- the file is in use
pub record IsInUse {D O S : Type 0} (call : Asking D O S) (new : NamesSeen D O S) (why : LibraryError)
    : Type 0 where
  pub holding : Holding D O
  pub kept : kept_under call.old.kept call.name ≡ Some holding
  pub found : Use
  pub used : in_use holding ≡ Some found
  pub is : why ≡ error.Busy found
  pub unchanged : Unchanged call new

abbrev pub IsNotRemoved : {D O S : Type 0} → Asking D O S → NamesSeen D O S → LibraryError → Type 0
IsNotRemoved call new why =
    IsBarred call unless_there new why ⊎ IsInUse call new why ⊎ FailsToRemove call new why

-- what `remove` answers
abbrev pub RemovesOrNot : {D O S : Type 0} → Asking D O S → NamesSeen D O S → Word → Type 0
RemovesOrNot call new word.Removed = RemovesKept call new
RemovesOrNot call new (word.No why) = IsNotRemoved call new why
RemovesOrNot call new other = ⊥

-- ---- at the end

abbrev pub drive_at_rest : {D : Type 0} → Seen D → Stage → Option D
drive_at_rest book Rest = Some (drive_of book.keep)
drive_at_rest book other = None

-- the drive that is kept under a name, if its file is at rest
abbrev pub drive_in : {D O : Type 0} → Option (Holding D O) → Option D
drive_in (Some (AtHand book)) = drive_at_rest book book.stage
drive_in (Some (Unread drive)) = Some drive
drive_in other = None
