-- Where a channel stands in its stream, and what is still to come.
use Rattle.std.specs.Prelude.{◌≡◌, ℕ, ◌+◌, ◌-◌, ◌<◌, ◌≤◌, List, [], ◌∷◌, ◌++◌, length, drop}
use Rattle.gft_base.specs.declared.TheConstants.{LIMIT}
use Rattle.gft_eblock.specs.Arrival.{Arrival, Eod, Bad, Refusal}
use Rattle.gft_eblock.specs.declared.bad_block.BadBlock.{BadBlock}
use Rattle.gft_eblock.specs.declared.TheConstants.{HEADER_LEN, MAX_BYTES}
use Rattle.gft_eblock.specs.declared.channel.State.{State}
use Rattle.gft_eblock.specs.declared.channel.State.TheVariants.{Header, Data, EodWaits, Done, Failed}
use Rattle.gft_eblock.specs.Arrivals.{data_then, end_or, blocks_from}

pub record Reader : Type 0 where
  pub shift : ℕ
  -- how many bytes were taken
  pub taken : ℕ
  -- the bytes of the header in which the channel stands
  pub header : List ℕ
  pub state : State

-- what a bad block tells
abbrev pub refusal_of : BadBlock → Refusal
refusal_of bad = record { place = bad.place; flags = bad.flags; count = bad.count; offset = bad.offset }

-- the arrivals that are still to come, if these are the bytes that follow
unfoldable pub to_come_in : State → ℕ → ℕ → List ℕ → List ℕ → List Arrival
to_come_in Header shift taken header later = blocks_from shift (taken - length header) (header ++ later)
to_come_in (Data offset left eod) shift taken header later =
    data_then offset left later (end_or eod (blocks_from shift (taken + left) (drop left later)))
to_come_in EodWaits shift taken header later = Eod ∷ []
to_come_in Done shift taken header later = []
to_come_in (Failed bad) shift taken header later = Bad (refusal_of bad) ∷ []

abbrev pub to_come : Reader → List ℕ → List Arrival
to_come r later = to_come_in r.state r.shift r.taken r.header later

abbrev pub IsDoneState : State → Type 0
IsDoneState Done = Unit {0}
IsDoneState _ = ⊥

-- the EOD was told
abbrev pub IsDone : Reader → Type 0
IsDone r = IsDoneState r.state

-- this block was refused
abbrev pub HasFailed : Reader → BadBlock → Type 0
HasFailed r bad = r.state ≡ Failed bad

-- the channel isn't done and hasn't failed, and no event waits
abbrev pub IsReading : State → Type 0
IsReading Header = Unit {0}
IsReading (Data offset left eod) = Unit {0}
IsReading _ = ⊥

abbrev pub wanted_in : State → List ℕ → ℕ
wanted_in Header header = HEADER_LEN - length header
wanted_in (Data offset left eod) header = left
wanted_in _ header = 0

-- how many bytes there are up to the end of this header, or of this block's data
abbrev pub wanted : Reader → ℕ
wanted r = wanted_in r.state r.header

abbrev pub IsSoundState : State → ℕ → List ℕ → Type 0
IsSoundState Header taken header = (length header < HEADER_LEN) × (length header ≤ taken)
IsSoundState (Data offset left eod) taken header = (0 < left) × (offset + left ≤ LIMIT) × (header ≡ [])
IsSoundState (Failed bad) taken header = (header ≡ []) × (taken ≡ bad.place + HEADER_LEN)
IsSoundState _ taken header = header ≡ []

abbrev pub IsSoundReader : Reader → Type 0
IsSoundReader r = (r.shift ≤ LIMIT) × (r.taken ≤ MAX_BYTES) × IsSoundState r.state r.taken r.header
