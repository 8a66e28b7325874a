-- How the ranges part is laid out: 64 bytes of head, and two banks of the same size, each a head and slots.
use Rattle.std.specs.Prelude.{◌≡◌, ℕ, zero, suc, ◌+◌, ◌*◌, ◌<◌, ◌≤◌, ◌⊎◌, List, slice_index}

-- a slot's size in bytes, how many a bank has, where in a slot its two numbers stand, and their width
pub record Layout : Type 0 where
  pub size : ℕ
  pub count : ℕ
  pub start : ℕ
  pub end : ℕ
  pub width : ℕ

-- the first version
abbrev pub first_layout : Layout
first_layout = record { size = 16; count = 65534; start = 2; end = 10; width = 6 }

-- the layout that a bank's version byte names
abbrev pub layout_of : ℕ → Layout
layout_of version = first_layout

abbrev pub bank_size : ℕ
bank_size = 1048576

abbrev pub bank_at : ℕ → ℕ
bank_at bank = 64 + bank_size * bank

-- where slot i of the bank that begins at this place begins
abbrev pub slot_at : Layout → ℕ → ℕ → ℕ
slot_at layout at i = at + 32 + layout.size * i

-- the number in these n bytes, the highest first
unfoldable pub number_at : List ℕ → ℕ → ℕ → ℕ
number_at xs at zero = 0
number_at xs at (suc n) = 256 * number_at xs at n + slice_index xs (at + n)

pub record Slot : Type 0 where
  pub gate : ℕ
  pub kind : ℕ
  pub start : ℕ
  pub end : ℕ

-- the slot that begins at this place
abbrev pub slot_of : Layout → List ℕ → ℕ → Slot
slot_of layout xs at = record {
  gate = slice_index xs at;
  kind = slice_index xs (at + 1);
  start = number_at xs (at + layout.start) layout.width;
  end = number_at xs (at + layout.end) layout.width;
}

-- a byte of a slot behind its kind that is part of neither number
abbrev pub IsPad : Layout → ℕ → Type 0
IsPad layout k =
    (2 ≤ k) × (k < layout.size) × ((k < layout.start) ⊎ (layout.start + layout.width ≤ k))
    × ((k < layout.end) ⊎ (layout.end + layout.width ≤ k))

-- the slot that begins at this place has zeros there
abbrev pub IsPadded : Layout → List ℕ → ℕ → Type 0
IsPadded layout xs at = (k : ℕ) → IsPad layout k → slice_index xs (at + k) ≡ 0
