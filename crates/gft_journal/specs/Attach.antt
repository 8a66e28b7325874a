-- What attaching a journal finds, and what it leaves.
use Rattle.std.specs.Prelude.{◌≡◌, ◌↔◌, ℕ, ◌+◌, ◌<◌, ◌≤◌, Bool, IsTrue, List, length, slice_index}
use Rattle.std.specs.Prelude.{Some, Result, Err}
use Rattle.gft_base.specs.declared.TheConstants.{LIMIT}
use Rattle.gft_range.specs.Words.{HasOffset}
use Rattle.gft_journal.specs.Bank.{IsEnd}
use Rattle.gft_drive.specs.declared.TheConstants.{MAX_RANGES, RANGES_LEN}
use Rattle.gft_drive.specs.declared.Part.TheVariants.{Bytes}
use Rattle.gft_drive.specs.Words.{Covers, DriveState, Elapses, Image, IsBorn, IsComplete, IsSynced, LeavesBy}
use Rattle.gft_drive.specs.Words.{bank_at, selected}
use Rattle.gft_journal.specs.Damage.{FirstDamage}
use Rattle.gft_journal.specs.Journal.{IsJournalOf, Matches}
use Rattle.gft_journal.specs.Scan.{IsBadAt, IsScan}
use Rattle.gft_journal.specs.declared.opening.Found.{Found}
use Rattle.gft_journal.specs.declared.damage.AttachError.{AttachError}
use Rattle.gft_journal.specs.declared.damage.AttachError.TheVariants.{Damaged}
use Rattle.gft_journal.specs.declared.damage.Damage.{Damage}
use Rattle.gft_journal.specs.declared.damage.Damage.TheVariants.{Slot, Version}
use Rattle.gft_journal.specs.declared.scan.Scan.{Scan}

-- it holds of the ranges part that a read gives, where the drive tells it
abbrev pub WhereTold : DriveState → (List ℕ → Type 0) → Type 0
WhereTold drive P = (read : Image) → drive.contents ≡ Some read → P read.ranges

-- a call that leaves each image as it was
pub record Rests (old new : DriveState) : Type 0 where
  pub time : Elapses old new
  pub images : LeavesBy (λ from image. image ≡ from) old new

-- what was found is what the ranges part stands for
pub record Finds (found : Found) (xs : List ℕ) : Type 0 where
  pub ranges : (x : ℕ) → HasOffset found.set.ranges x ↔ Covers xs x
  pub complete : (len : ℕ) → (found.complete ≡ Some len) ↔ IsComplete xs len
  pub born : IsTrue found.born ↔ IsBorn xs

-- a drive is attached: what a read gives stays, and a crash leaves that in both parts
pub record FoundOn (old new : DriveState) (found : Found) : Type 0 where
  pub read : new.contents ≡ old.contents
  pub finds : WhereTold old (Finds found)
  pub few : length found.set.ranges ≤ MAX_RANGES
  pub in_limit : (x : ℕ) → HasOffset found.set.ranges x → x < LIMIT
  pub end : IsEnd found.complete
  pub stands : IsJournalOf found.journal new
  pub synced : IsSynced Bytes new

-- a damage is the first of what a read gives
abbrev pub IsDamageOf : {T : Type 0} → DriveState → Result T AttachError → Type 0
IsDamageOf drive result = (damage : Damage) → result ≡ Err (Damaged damage)
    → WhereTold drive (FirstDamage damage)

-- ---- the head and the slots, one after another

-- the part has its length, its selected bank is this one, of a known version, and says this of the birth
pub record IsJournalHead (number : ℕ) (is_born : Bool) (xs : List ℕ) : Type 0 where
  pub size : length xs ≡ RANGES_LEN
  pub bank : number ≡ selected xs
  pub born : IsTrue is_born ↔ IsBorn xs
  pub version : slice_index xs (bank_at (selected xs)) ≤ 1

abbrev pub HasSize : DriveState → Type 0
HasSize drive = WhereTold drive (λ xs. length xs ≡ RANGES_LEN)

-- the slots up to this one are taken where those up to the first were
abbrev pub ScansOn : DriveState → ℕ → ℕ → ℕ → Scan → Scan → Type 0
ScansOn drive at first n old new = WhereTold drive (λ xs. IsScan xs at first old
    → IsScan xs at (first + n) new)

-- a damage is the first bad slot of the bank at this place, where those before the first were taken
abbrev pub IsBadOf : {T : Type 0} → DriveState → ℕ → ℕ → Scan → Result T AttachError → Type 0
IsBadOf drive at first scan result =
    (damage : Damage) → result ≡ Err (Damaged damage)
    → WhereTold drive (λ xs. IsScan xs at first scan → (i : ℕ) × (damage ≡ Slot i) × (i < 65534)
    × IsBadAt xs at i)

-- and where none was
abbrev pub IsFirstBadOf : {T : Type 0} → DriveState → ℕ → Result T AttachError → Type 0
IsFirstBadOf drive at result =
    (damage : Damage) → result ≡ Err (Damaged damage)
    → WhereTold drive (λ xs. (i : ℕ) × (damage ≡ Slot i) × (i < 65534) × IsBadAt xs at i)

-- the selector names this bank, and the byte behind it says this of the birth
pub record IsSelected (number : ℕ) (is_born : Bool) (xs : List ℕ) : Type 0 where
  pub bank : number ≡ selected xs
  pub born : IsTrue is_born ↔ IsBorn xs

-- these bytes stand at this place
abbrev pub HasBytesAt : ℕ → List ℕ → List ℕ → Type 0
HasBytesAt at bytes xs = (k : ℕ) → k < length bytes → slice_index xs (at + k) ≡ slice_index bytes k

-- where the drive tells its contents, no damage was met
abbrev pub HasNoDamage : {T : Type 0} → DriveState → Result T AttachError → Type 0
HasNoDamage drive result = (damage : Damage) → result ≡ Err (Damaged damage) → WhereTold drive (λ xs. ⊥)

-- a damage is the version of this bank
abbrev pub IsVersionOf : {T : Type 0} → DriveState → ℕ → Result T AttachError → Type 0
IsVersionOf drive bank result =
    (damage : Damage) → result ≡ Err (Damaged damage)
    → WhereTold drive (λ xs. (damage ≡ Version bank (slice_index xs (bank_at bank)))
    × (1 < slice_index xs (bank_at bank)))

-- what was found is what a read gives, and the journal is that of the part
pub record FindsIn (drive : DriveState) (found : Found) : Type 0 where
  pub finds : WhereTold drive (Finds found)
  pub few : length found.set.ranges ≤ MAX_RANGES
  pub in_limit : (x : ℕ) → HasOffset found.set.ranges x → x < LIMIT
  pub end : IsEnd found.complete
  pub matches : WhereTold drive (Matches found.journal)
