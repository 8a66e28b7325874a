-- What the bytes of one data connection tell, as one list: the bytes are split into blocks from the front.
use Rattle.std.specs.Prelude.{ℕ, zero, suc, ◌+◌, Bool, if◌then◌else◌, nat_lt}
use Rattle.std.specs.Prelude.{List, [], ◌∷◌, ◌++◌, length, take, drop}
use Rattle.gft_eblock.specs.declared.TheConstants.{HEADER_LEN}
use Rattle.gft_eblock.specs.Arrival.{Arrival, At, Eof, Eod, Bad, Refusal}
use Rattle.gft_eblock.specs.declared.header.Header.{Header}
use Rattle.gft_eblock.specs.Header.{is_bad, is_eod, is_eof}
use Rattle.gft_eblock.specs.Spelling.{header_of}

-- bytes that arrive at an offset and onwards
abbrev pub data_at : ℕ → List ℕ → List Arrival
data_at offset [] = []
data_at offset (value ∷ values) = At offset value ∷ data_at (offset + 1) values

-- the first `left` of the bytes arrive, and behind the last of them what follows
unfoldable pub data_then : ℕ → ℕ → List ℕ → List Arrival → List Arrival
data_then offset left bytes next =
    data_at offset (take left bytes) ++ (if nat_lt (length bytes) left then [] else next)

-- an EOD ends the stream
abbrev pub end_or : Bool → List Arrival → List Arrival
end_or eod next = if eod then Eod ∷ [] else next

-- a header that is refused, behind `place` bytes of the stream
abbrev pub refusal : ℕ → Header → Refusal
refusal place h = record { place = place; flags = h.flags; count = h.count; offset = h.offset }

-- an EOF is told first, then the data; then an EOD, or what follows the block
unfoldable pub good_block : ℕ → Header → List ℕ → List Arrival → List Arrival
good_block shift h bytes next =
    (if is_eof h.flags then Eof h.offset ∷ [] else [])
    ++ data_then (shift + h.offset) h.count bytes (end_or (is_eod h.flags) next)

-- the block that `place` bytes of the stream stand before, and what follows it
abbrev pub block_then : ℕ → ℕ → Header → List ℕ → List Arrival → List Arrival
block_then shift place h bytes next =
    if is_bad shift h then Bad (refusal place h) ∷ [] else good_block shift h bytes next

-- up to so many blocks
abbrev pub blocks_within : ℕ → ℕ → ℕ → List ℕ → List Arrival
blocks_within zero shift place bytes = []
blocks_within (suc most) shift place bytes =
    let h = header_of (take HEADER_LEN bytes) in
    if nat_lt (length bytes) HEADER_LEN
    then []
    else block_then shift place h (drop HEADER_LEN bytes)
    (blocks_within most shift (place + HEADER_LEN + h.count) (drop h.count (drop HEADER_LEN bytes)))

-- the arrivals of the blocks that `place` bytes of the stream stand before; there are no more blocks than
-- bytes
unfoldable pub blocks_from : ℕ → ℕ → List ℕ → List Arrival
blocks_from shift place bytes = blocks_within (length bytes) shift place bytes

-- the arrivals of a stream whose offsets have `shift` added
unfoldable pub arrivals : ℕ → List ℕ → List Arrival
arrivals shift stream = blocks_from shift 0 stream

-- neither an EOD nor a bad block is among them
abbrev pub IsUnfinished : List Arrival → Type 0
IsUnfinished [] = Unit {0}
IsUnfinished (At offset value ∷ list) = IsUnfinished list
IsUnfinished (Eof total ∷ list) = IsUnfinished list
IsUnfinished (Eod ∷ list) = ⊥
IsUnfinished (Bad refused ∷ list) = ⊥

-- an EOD or a bad block is among them
abbrev pub HasEnded : List Arrival → Type 0
HasEnded [] = ⊥
HasEnded (At offset value ∷ list) = HasEnded list
HasEnded (Eof total ∷ list) = HasEnded list
HasEnded (Eod ∷ list) = Unit {0}
HasEnded (Bad refused ∷ list) = Unit {0}
