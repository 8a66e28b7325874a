-- A bank by the list of its open slots.
use Rattle.std.specs.Prelude.{◌≡◌, ℕ, ◌+◌, ◌*◌, ◌<◌, ◌≤◌, List, [], ◌∷◌, ◌++◌, map, length, slice_index}
use Rattle.std.specs.Prelude.{slice_get, Option, Some, None, MatchOption, IfSome}
use Rattle.gft_drive.specs.Words.{Slot, first_layout, slot_of, IsPadded, bank_size}
use Rattle.gft_drive.specs.Words.{range_kind, complete_kind}
use Rattle.gft_drive.specs.declared.TheConstants.{MAX_RANGES}
use Rattle.gft_base.specs.declared.TheConstants.{LIMIT}
use Rattle.gft_drive.specs.Words.{DiffersIn}
use Rattle.gft_drive.specs.Words.{Image, DriveState}
use Rattle.gft_range.specs.declared.Range.{Range}
use Rattle.gft_range.specs.Words.{InRange}

-- at most 16,384 ranges, each with an offset, and none past the limit
pub record IsSet (set : List Range) : Type 0 where
  pub count : length set ≤ MAX_RANGES
  pub ranges : (i : ℕ) (range : Range) → slice_get set i ≡ Some range → (range.start < range.end)
      × (range.end ≤ LIMIT)

abbrev pub IsEnd : Option ℕ → Type 0
IsEnd complete = IfSome complete (λ len. len ≤ LIMIT)

abbrev pub range_slot : Range → Slot
range_slot range = record { gate = 1; kind = range_kind; start = range.start; end = range.end }

abbrev pub end_slot : Option ℕ → List Slot
end_slot None = []
end_slot (Some len) = record { gate = 1; kind = complete_kind; start = 0; end = len } ∷ []

-- the open slots of a bank with these ranges and this complete length
abbrev pub slots_of : List Range → Option ℕ → List Slot
slots_of set complete = map range_slot set ++ end_slot complete

-- the slot at this place is the one of this number
abbrev pub IsNth : List Slot → ℕ → List ℕ → ℕ → Type 0
IsNth slots i xs at = MatchOption (slice_get slots i) (slice_index xs at ≡ 0)
    (λ s. (slot_of first_layout xs at ≡ s) × IsPadded first_layout xs at)

-- the 16 bytes at this place are those of this number in a bank: two of its
-- head, of which the first begins with the version, and then its slots
pub record IsUnit (slots : List Slot) (index : ℕ) (xs : List ℕ) (at : ℕ) : Type 0 where
  pub head : index ≡ 0 → slice_index xs at ≡ 1
  pub slot : (i : ℕ) → index ≡ i + 2 → IsNth slots i xs at

-- the n units from this one on stand at this place
abbrev pub HasUnits : List Slot → ℕ → ℕ → List ℕ → ℕ → Type 0
HasUnits slots first n xs at = (i : ℕ) → i < n → IsUnit slots (first + i) xs (at + 16 * i)

-- the bank at this place has these open slots, and all else stays
pub record WritesBank (at : ℕ) (slots : List Slot) (old new : List ℕ) : Type 0 where
  pub differs : DiffersIn at bank_size old new
  pub units : HasUnits slots 0 65536 new at

pub record HasBank (at : ℕ) (drive : DriveState) : Type 0 where
  pub within : (read : Image) → drive.contents ≡ Some read → at + bank_size ≤ length read.ranges

-- the offset is in one of the ranges
abbrev pub InSet : List Range → ℕ → Type 0
InSet set x = (i : ℕ) × (range : Range) × (slice_get set i ≡ Some range) × InRange range x
