-- The byte that an image holds at an offset. Its ranges are a function here, so that the kept byte is one.
use Rattle.std.specs.Prelude.{ℕ, zero, suc, ◌==◌, ◌&&◌, ◌||◌, nat_le, nat_lt, List, slice_get, Option, None}
use Rattle.std.specs.Prelude.{Bool, false, if◌then◌else◌}
use Rattle.gft_drive.specs.Words.{Image, Slot, layout_at, range_kind, selected, slot}

-- the slot is open, has a range, and its range has the offset
abbrev pub slot_names : Slot → ℕ → Bool
slot_names s x = ((s.gate == 1) && (s.kind == range_kind)) && (nat_le s.start x && nat_lt x s.end)

-- one of the first n slots of this bank names the offset
unfoldable pub bank_names : (ℕ → Slot) → ℕ → ℕ → Bool
bank_names bank zero x = false
bank_names bank (suc n) x = bank_names bank n x || slot_names (bank n) x

-- the offset is in the ranges of this part: true exactly where the part `Covers` it
abbrev pub covers : List ℕ → ℕ → Bool
covers xs x = bank_names (slot xs (selected xs)) (layout_at xs (selected xs)).count x

-- what an image holds at x: the byte of its data, where x is in its ranges
abbrev pub held : Image → ℕ → Option ℕ
held image x = if covers image.ranges x then slice_get image.bytes x else None
