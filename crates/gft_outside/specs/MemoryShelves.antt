-- What the memory form of a shelf shows.
use Rattle.std.specs.Prelude.{◌≡◌, ℕ, Bool, true, false, not, List, [], Option, Some, Result, Ok, Err, filter}
use Rattle.std.specs.List.{find}
use Rattle.std.specs.Str.{bytes_eq}
use Rattle.gft_base.specs.Words.{one_more}
use Rattle.gft_drive.specs.Memory.{IsNew, Memory}
use Rattle.gft_drive.specs.declared.TheConstants.{RANGES_LEN}
use Rattle.gft_drive.specs.declared.failures.FailAt.{FailAt}
use Rattle.gft_outside.specs.Lists.{Failures, counted, fails_next}
use Rattle.gft_outside.specs.Shelves.{ShelfState}
use Rattle.gft_outside.specs.declared.shelf.ShelfError.{ShelfError}
use Rattle.gft_outside.specs.declared.shelf.ShelfError.TheVariants as error

-- what a drive that is made has
pub record Making : Type 0 where
  -- the room of its bytes
  pub capacity : ℕ
  -- how many calls may reach it
  pub calls : ℕ
  -- the calls of it that are to fail
  pub failing : List FailAt

pub record ShelfList : Type 0 where
  -- each under its label; the first of those under one label counts
  pub drives : List Memory
  pub making : Making
  pub failing : Failures
  pub faults : ℕ

abbrev pub is_under : List ℕ → Memory → Bool
is_under name drive = bytes_eq drive.label name

abbrev pub is_elsewhere : List ℕ → Memory → Bool
is_elsewhere name drive = not (is_under name drive)

-- the drive under a name
abbrev pub drive_under : List Memory → List ℕ → Option Memory
drive_under drives name = find (is_under name) drives

abbrev pub without_name : List ℕ → List Memory → List Memory
without_name name drives = filter (is_elsewhere name) drives

abbrev pub shelf_state : ShelfList → ShelfState Memory
shelf_state shelf = record { drives = Some (drive_under shelf.drives); faults = shelf.faults }

-- a shelf with these drives, which makes such ones, and whose calls of these numbers are to fail
abbrev pub new_shelf : List Memory → Making → List ℕ → ShelfList
new_shelf drives making failing = record {
  drives = drives;
  making = making;
  failing = record { numbers = failing; calls = 0 };
  faults = 0;
}

-- a call was counted, and that is all
abbrev pub shelf_called : ShelfList → ShelfList
shelf_called shelf = record shelf { failing = counted shelf.failing }

abbrev pub shelf_failed : ShelfList → ShelfList
shelf_failed shelf = record shelf { failing = counted shelf.failing; faults = one_more shelf.faults }

-- a new drive under the name, made as the shelf makes them
pub record IsMadeOn (making : Making) (name : List ℕ) (drive : Memory) : Type 0 where
  pub label : drive.label ≡ name
  pub disk : IsNew RANGES_LEN drive.disk
  pub no_calls : drive.calls ≡ []
  pub no_faults : drive.faults ≡ 0
  pub room : drive.capacity ≡ making.capacity
  pub calls_left : drive.calls_left ≡ making.calls
  pub to_fail : drive.failing ≡ making.failing

-- the drive under the name was taken, or the call fails where it is to
abbrev pub FindsIn : List ℕ → Result (Option Memory) ShelfError → ShelfList → ShelfList → Type 0
FindsIn name (Ok found) old new = (fails_next old.failing ≡ false) × (found ≡ drive_under old.drives name)
    × (new ≡ record (shelf_called old) { drives = without_name name old.drives })
FindsIn name (Err error.Failed) old new = (fails_next old.failing ≡ true) × (new ≡ shelf_failed old)
FindsIn name (Err error.OutOfMemory) old new = ⊥

-- a drive was made, or the call fails where it is to, or memory is refused
abbrev pub MakesIn : List ℕ → Result Memory ShelfError → ShelfList → ShelfList → Type 0
MakesIn name (Ok drive) old new = (fails_next old.failing ≡ false) × IsMadeOn old.making name drive
    × (new ≡ record (shelf_called old) { drives = without_name name old.drives })
MakesIn name (Err error.Failed) old new = (fails_next old.failing ≡ true) × (new ≡ shelf_failed old)
MakesIn name (Err error.OutOfMemory) old new = (fails_next old.failing ≡ false) × (new ≡ shelf_called old)

-- the name was taken away, or the call fails where it is to
abbrev pub RemovesIn : {T E : Type 0} → List ℕ → Result T E → ShelfList → ShelfList → Type 0
RemovesIn name (Ok value) old new = (fails_next old.failing ≡ false)
    × (new ≡ record (shelf_called old) { drives = without_name name old.drives })
RemovesIn name (Err failed) old new = (fails_next old.failing ≡ true) × (new ≡ shelf_failed old)
