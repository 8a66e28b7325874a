-- What a ranges part stands for: the offsets that it names, the complete length, and the drive's birth.
use Rattle.std.specs.Prelude.{◌≡◌, ℕ, ◌%◌, ◌<◌, ◌≤◌, ◌⊎◌, List, length, slice_index}
use Rattle.gft_drive.specs.Layout.{Layout, Slot, layout_of, bank_at, slot_at, slot_of, IsPadded}
use Rattle.gft_drive.specs.declared.TheConstants.{RANGES_LEN}

abbrev pub range_kind : ℕ
range_kind = 1

abbrev pub complete_kind : ℕ
complete_kind = 2

-- the bank that the selector names
abbrev pub selected : List ℕ → ℕ
selected xs = slice_index xs 0 % 2

-- the layout of a bank
abbrev pub layout_at : List ℕ → ℕ → Layout
layout_at xs bank = layout_of (slice_index xs (bank_at bank))

-- slot i of a bank
abbrev pub slot : List ℕ → ℕ → ℕ → Slot
slot xs bank i = slot_of (layout_at xs bank) xs (slot_at (layout_at xs bank) (bank_at bank) i)

abbrev pub IsOpenAs : ℕ → Slot → Type 0
IsOpenAs kind s = (s.gate ≡ 1) × (s.kind ≡ kind)

abbrev pub Has : Slot → ℕ → Type 0
Has s x = (s.start ≤ x) × (x < s.end)

-- an open range slot among the first n of this bank names the offset
abbrev pub Names : (ℕ → Slot) → ℕ → ℕ → Type 0
Names bank n x = (i : ℕ) × (i < n) × IsOpenAs range_kind (bank i) × Has (bank i) x

-- the last open slot of this kind among the first n of this bank ends here
abbrev pub LastEndsAt : ℕ → (ℕ → Slot) → ℕ → ℕ → Type 0
LastEndsAt kind bank n end =
    (i : ℕ) × (i < n) × IsOpenAs kind (bank i) × ((bank i).end ≡ end) × ((j : ℕ) → i < j → j < n
    → IsOpenAs kind (bank j) → ⊥)

-- the ranges of the part: the offsets that the open range slots of the selected bank name
abbrev pub Covers : List ℕ → ℕ → Type 0
Covers xs x = Names (slot xs (selected xs)) (layout_at xs (selected xs)).count x

-- the file is complete with this length
abbrev pub IsComplete : List ℕ → ℕ → Type 0
IsComplete xs len = LastEndsAt complete_kind (slot xs (selected xs)) (layout_at xs (selected xs)).count len

abbrev pub IsBorn : List ℕ → Type 0
IsBorn xs = slice_index xs 1 ≡ 1

-- an open slot has a known kind, zeros where nothing stands, and numbers that go together
pub record IsFit (s : Slot) : Type 0 where
  pub kind : (s.kind ≡ range_kind) ⊎ (s.kind ≡ complete_kind)
  pub range : s.kind ≡ range_kind → s.start < s.end
  pub complete : s.kind ≡ complete_kind → s.start ≡ 0

-- no damage but for the number of ranges
pub record IsIntact (xs : List ℕ) : Type 0 where
  pub size : length xs ≡ RANGES_LEN
  pub version : slice_index xs (bank_at (selected xs)) ≤ 1
  pub slots : (i : ℕ) → i < (layout_at xs (selected xs)).count → (slot xs (selected xs) i).gate ≡ 1
      → IsFit (slot xs (selected xs) i)
      × IsPadded (layout_at xs (selected xs)) xs
      (slot_at (layout_at xs (selected xs)) (bank_at (selected xs)) i)
