-- The drives of a shelf in memory.
use Rattle.std.proofs.Common.{◌≡◌, ◌≢◌, ℕ, Bool, true, false, not, List, [], length, get_or, Option, None, Some, refl, sym, ap, ◌∙◌, subst, arith, inl, Result, Ok, Err, IfOk, IfErr, MatchOption, MatchResult}
use Rattle.std.proofs.lemmas.Slice.Eq.{bytes_eq-Decides}
use Rattle.gft_drive.specs.Memory.{Memory}
use Rattle.gft_drive.specs.Replay.{ImagesSince, state_after}
use Rattle.gft_drive.specs.declared.disk.Step.{Step}
use Rattle.gft_drive.specs.Words.{DriveState}
use Rattle.gft_outside.specs.MemoryShelves.{FindsIn, IsMadeOn, MakesIn, Making, RemovesIn, ShelfList, drive_under, is_under, shelf_state, without_name}
use Rattle.gft_outside.specs.Shelves.{FindsDrive, FindsNone, IsNewDrive, MakesDrive, NotFound, NotMade, NotRemoved, RemovesName}
use Rattle.gft_outside.specs.declared.shelf.ShelfError.{ShelfError}
use Rattle.gft_outside.specs.declared.shelf.ShelfError.TheVariants as error
use Rattle.gft_outside.proofs.FindLemmas.{find_left, find_other, found_passes, none_left}

same_name : (drive : Memory) (name : List ℕ) → is_under name drive ≡ true → drive.label ≡ name
same_name drive name e = (bytes_eq-Decides drive.label name).0 e

is_apart : (name other : List ℕ) → other ≢ name → (drive : Memory) → is_under name drive ≡ true → is_under other drive ≡ false
is_apart name other apart drive e = step (is_under other drive) refl
  where
    step : (b : Bool) → is_under other drive ≡ b → b ≡ false
    step true h = absurd (apart (sym (same_name drive other h) ∙ same_name drive name e))
    step false h = refl

-- what is left has nothing under the name
pub gone : (drives : List Memory) (name : List ℕ) → drive_under (without_name name drives) name ≡ None
gone drives name = find_left (is_under name) drives

-- and under each other name what there was
pub others : (drives : List Memory) (name other : List ℕ) → other ≢ name → drive_under (without_name name drives) other ≡ drive_under drives other
others drives name other apart = find_other (is_under name) (is_under other) (is_apart name other apart) drives

-- a drive under a name has it for its label
pub labelled : (drives : List Memory) (name : List ℕ) (drive : Memory) → drive_under drives name ≡ Some drive → drive.label ≡ name
labelled drives name drive e = same_name drive name (found_passes (is_under name) drives drive e)

-- a drive that was just made is new
pub made_new : (making : Making) (name : List ℕ) (drive : Memory) → IsMadeOn making name drive → IsNewDrive (state_after drive.label drive.disk drive.faults) name
made_new making name drive made = record {
  label = made.label;
  empty = λ told image left.
      let now : ImagesSince drive.disk.first [] 0 image = subst (λ (steps : List Step). ImagesSince drive.disk.first steps (length steps) image) made.disk.untouched left in
      (now.0 ∙ made.disk.empty, λ born. let zero_there = made.disk.zeros 1 in absurd (omega (arith, zero_there, born, ap (λ (xs : List ℕ). get_or xs 1 0) now.1)));
  faults = made.no_faults;
}

-- ---- the calls, as the trait tells them

abbrev state_of : Memory → DriveState
state_of drive = state_after drive.label drive.disk drive.faults

pub finds_told : (old new : ShelfList) (name : List ℕ) (result : Result (Option Memory) ShelfError) → FindsIn name result old new
    → IfOk result (λ found. MatchOption found (FindsNone (shelf_state old) (shelf_state new) name) (λ drive. FindsDrive (state_of drive) (shelf_state old) (shelf_state new) name drive))
    × IfErr result (NotFound (shelf_state old) (shelf_state new) name)
finds_told old new name (Ok None) h = (
  subst (λ (s : ShelfList). FindsNone (shelf_state old) (shelf_state s) name) (sym h.2) (record {
    had = sym h.1;
    same = λ other any. ap (λ (l : List Memory). drive_under l other) (none_left (is_under name) old.drives (sym h.1));
    faults = refl;
  }),
  tt,
)
finds_told old new name (Ok (Some drive)) h = (
  subst (λ (s : ShelfList). FindsDrive (state_of drive) (shelf_state old) (shelf_state s) name drive) (sym h.2) (record {
    had = sym h.1;
    gone = gone old.drives name;
    others = λ other apart. others old.drives name other apart;
    label = labelled old.drives name drive (sym h.1);
    tells = λ told. refl;
    faults = refl;
  }),
  tt,
)
finds_told old new name (Err error.Failed) h = (
  tt,
  subst (λ (s : ShelfList). NotFound (shelf_state old) (shelf_state s) name error.Failed) (sym h.1) (record {
    same = λ other any. refl;
    cause = omega arith;
  }),
)
finds_told old new name (Err error.OutOfMemory) h = absurd h

pub makes_told : (old new : ShelfList) (name : List ℕ) (result : Result Memory ShelfError) → MakesIn name result old new
    → IfOk result (λ drive. MakesDrive (state_of drive) (shelf_state old) (shelf_state new) name)
    × IfErr result (NotMade state_of (shelf_state old) (shelf_state new) name)
makes_told old new name (Ok drive) h = (
  subst (λ (s : ShelfList). MakesDrive (state_of drive) (shelf_state old) (shelf_state s) name) (sym h.2) (record {
    gone = gone old.drives name;
    others = λ other apart. others old.drives name other apart;
    fresh = made_new old.making name drive h.1;
    faults = refl;
  }),
  tt,
)
makes_told old new name (Err error.Failed) h = (
  tt,
  subst (λ (s : ShelfList). NotMade state_of (shelf_state old) (shelf_state s) name error.Failed) (sym h.1) (record {
    others = λ other apart. refl;
    under = inl (λ other any. refl);
    cause = omega arith;
  }),
)
makes_told old new name (Err error.OutOfMemory) h = (
  tt,
  subst (λ (s : ShelfList). NotMade state_of (shelf_state old) (shelf_state s) name error.OutOfMemory) (sym h.1) (record {
    others = λ other apart. refl;
    under = inl (λ other any. refl);
    cause = refl;
  }),
)

pub removes_told : {T E : Type 0} (old new : ShelfList) (name : List ℕ) (result : Result T E) → RemovesIn name result old new
    → MatchResult result (λ _. RemovesName (shelf_state old) (shelf_state new) name) (λ _. NotRemoved (shelf_state old) (shelf_state new) name)
removes_told old new name (Ok value) h =
    subst (λ (s : ShelfList). RemovesName (shelf_state old) (shelf_state s) name) (sym h.1) (record {
      gone = gone old.drives name;
      others = λ other apart. others old.drives name other apart;
      faults = refl;
    })
removes_told old new name (Err failed) h =
    subst (λ (s : ShelfList). NotRemoved (shelf_state old) (shelf_state s) name) (sym h.1) (record {
      others = λ other apart. refl;
      under = inl (λ other any. refl);
      rose = omega arith;
    })
