-- When a ranges part is damaged, and how a drive is attached.
use Rattle.std.specs.Prelude.{◌≡◌, ◌≢◌, ◌↔◌, ℕ, ◌<◌, ◌≤◌, List, length, slice_index, Result, IsErrOf}
use Rattle.gft_base.specs.Words.{Rose}
use Rattle.gft_range.specs.declared.Range.{Range}
use Rattle.gft_range.specs.Words.{HasOffset, IsNormal}
use Rattle.gft_drive.specs.declared.TheConstants.{MAX_RANGES, RANGES_LEN}
use Rattle.gft_drive.specs.Words.{Covers, IsFit, IsIntact, IsPadded, bank_at, first_layout, selected, slot}
use Rattle.gft_drive.specs.Words.{slot_at}
use Rattle.gft_journal.specs.declared.damage.Damage.{Damage}
use Rattle.gft_journal.specs.declared.damage.Damage.TheVariants.{Size, Version, Slot, Ranges, Short}
use Rattle.gft_journal.specs.declared.damage.AttachError.{AttachError}
use Rattle.gft_journal.specs.declared.damage.AttachError.TheVariants.{Failed}

-- the slot of this number in a bank is a range's or a length's, with zeros where nothing stands
abbrev pub IsGood : List ℕ → ℕ → ℕ → Type 0
IsGood xs bank i = IsFit (slot xs bank i) × IsPadded first_layout xs (slot_at first_layout (bank_at bank) i)

-- the first open slot of the bank that is none
pub record FirstBadSlot (xs : List ℕ) (bank i : ℕ) : Type 0 where
  pub within : i < first_layout.count
  pub is_open : (slot xs bank i).gate ≡ 1
  pub bad : ¬ IsGood xs bank i
  pub before : (k : ℕ) → k < i → (slot xs bank k).gate ≡ 1 → IsGood xs bank k

-- more ranges than a file may have, as the count of their normal list
pub record HasTooMany (xs : List ℕ) (n : ℕ) : Type 0 where
  pub intact : IsIntact xs
  pub set : List Range
  pub normal : IsNormal set
  pub offsets : (x : ℕ) → HasOffset set x ↔ Covers xs x
  pub count : n ≡ length set
  pub many : MAX_RANGES < length set

-- the damage that is met first
abbrev pub FirstDamage : Damage → List ℕ → Type 0
FirstDamage (Size len) xs = (len ≡ length xs) × (length xs ≢ RANGES_LEN)
FirstDamage (Version bank found) xs =
    (length xs ≡ RANGES_LEN) × (bank ≡ selected xs) × (found ≡ slice_index xs (bank_at (selected xs)))
    × (1 < found)
FirstDamage (Slot i) xs =
    (length xs ≡ RANGES_LEN) × (slice_index xs (bank_at (selected xs)) ≤ 1) × FirstBadSlot xs (selected xs) i
FirstDamage (Ranges count) xs = HasTooMany xs count
FirstDamage (Short end len) xs = ⊥

-- only a failed attach raises the count of faults
pub record HasAttachCause {T : Type 0} (before now : ℕ) (result : Result T AttachError) : Type 0 where
  pub later : before ≤ now
  pub kept : ¬ IsErrOf result Failed → now ≡ before
  pub failed : IsErrOf result Failed → Rose before now
