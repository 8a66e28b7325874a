-- What is added on the stripes of a meter, counted from 0, and what contracts see of a meter and of a seat.
use Rattle.std.specs.Prelude.{ℕ, ◌+◌, ◌^◌, ◌==◌, List, [], ◌∷◌, ◌++◌, sum_by, if◌then◌else◌}
use Rattle.atomic_table.specs.Seated.{TableId}
use Rattle.gft_meter.specs.declared.view.Add.{Add}

-- the bytes of an add that are of a stripe
abbrev pub bytes_on : ℕ → Add → ℕ
bytes_on stripe add = if add.stripe == stripe then add.bytes else 0

-- the sum of a stripe: the bytes that were added on it
abbrev pub added_on : ℕ → List Add → ℕ
added_on stripe adds = sum_by (bytes_on stripe) adds

-- a meter: the table by which its seats are known, and how many stripes it has
pub record MeterState : Type 0 where
  pub table : TableId
  pub stripes : ℕ

-- a seat: the table of its meter, how many seats it may still split off, and what was added through it and
-- through the seats that were joined into it, in no order that matters
pub record SeatState : Type 0 where
  pub table : TableId
  pub rights : ℕ
  pub adds : List Add

-- the rights of the first seat. A seat that has them is the only one: all others were joined into it
abbrev pub all_rights : ℕ
all_rights = 16

-- the first seat of a meter
abbrev pub first_seat : TableId → SeatState
first_seat table = record { table = table; rights = all_rights; adds = [] }

-- the most bytes that are added on a stripe through one seat
abbrev pub most_added : ℕ
most_added = 2 ^ 58

abbrev pub with_bytes : SeatState → ℕ → ℕ → SeatState
with_bytes seat stripe bytes = record seat { adds = record { stripe = stripe; bytes = bytes } ∷ seat.adds }

-- another seat was joined in: its adds, its rights, and the right that it stood for
abbrev pub joined : SeatState → SeatState → SeatState
joined seat other = record seat { rights = seat.rights + other.rights + 1; adds = seat.adds ++ other.adds }
