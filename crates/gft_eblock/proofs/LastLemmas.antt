-- Nothing is told behind an EOD; how many EODs lists have.
use Rattle.std.proofs.Common.{◌≡◌, ℕ, zero, suc, ◌+◌, ◌<◌, Bool, true, false, List, [], ◌∷◌, ◌++◌, length, take, drop, refl, arith}
use Rattle.std.specs.Prelude.{if◌then◌else◌, nat_lt}
use Rattle.gft_eblock.specs.declared.TheConstants.{HEADER_LEN}
use Rattle.gft_eblock.specs.declared.header.Header.{Header}
use Rattle.gft_eblock.specs.Arrival.{Arrival, At, Bad, Eod, Eof, eods}
use Rattle.gft_eblock.specs.Header.{is_bad, is_eod, is_eof}
use Rattle.gft_eblock.specs.Spelling.{header_of}
use Rattle.gft_eblock.specs.Arrivals.{IsUnfinished, arrivals, block_then, blocks_from, blocks_within, data_at, data_then, end_or, good_block, refusal}
use Rattle.gft_eblock.proofs.EndingLemmas.{IsUnfinished-data_at}

-- ---- how many EODs

pub eods-append : (a b : List Arrival) → eods (a ++ b) ≡ eods a + eods b
eods-append [] b = omega arith
eods-append (At offset value ∷ a) b = eods-append a b
eods-append (Eof total ∷ a) b = eods-append a b
eods-append (Eod ∷ a) b = let h = eods-append a b in omega (arith, h)
eods-append (Bad refused ∷ a) b = eods-append a b

pub eods-data_at : (offset : ℕ) (bytes : List ℕ) → eods (data_at offset bytes) ≡ 0
eods-data_at offset [] = refl
eods-data_at offset (value ∷ bytes) = eods-data_at (offset + 1) bytes

-- ---- nothing is told behind an EOD

abbrev pub IsLastEod : List Arrival → Type 0
IsLastEod [] = Unit {0}
IsLastEod (At offset value ∷ list) = IsLastEod list
IsLastEod (Eof total ∷ list) = IsLastEod list
IsLastEod (Eod ∷ list) = list ≡ []
IsLastEod (Bad refused ∷ list) = IsLastEod list

last-append : (a b : List Arrival) → IsUnfinished a → IsLastEod b → IsLastEod (a ++ b)
last-append [] b open_ last = last
last-append (At offset value ∷ a) b open_ last = last-append a b open_ last
last-append (Eof total ∷ a) b open_ last = last-append a b open_ last
last-append (Eod ∷ a) b open_ last = absurd open_
last-append (Bad refused ∷ a) b open_ last = absurd open_

last-data : (offset left : ℕ) (bytes : List ℕ) (next : List Arrival) → IsLastEod next → IsLastEod (data_then offset left bytes next)
unfolding data_then
last-data offset left bytes next last =
    last-append (data_at offset (take left bytes)) (if nat_lt (length bytes) left then [] else next) (IsUnfinished-data_at offset (take left bytes)) (cases (nat_lt (length bytes) left))
  where
    cases : (b : Bool) → IsLastEod (if b then [] else next)
    cases true = tt
    cases false = last

last-end : (eod : Bool) (next : List Arrival) → IsLastEod next → IsLastEod (end_or eod next)
last-end true next last = refl
last-end false next last = last

last-good : (shift : ℕ) (h : Header) (bytes : List ℕ) (next : List Arrival) → IsLastEod next → IsLastEod (good_block shift h bytes next)
unfolding good_block
last-good shift h bytes next last =
    last-append (if is_eof h.flags then Eof h.offset ∷ [] else []) (data_then (shift + h.offset) h.count bytes (end_or (is_eod h.flags) next)) (cases (is_eof h.flags))
    (last-data (shift + h.offset) h.count bytes (end_or (is_eod h.flags) next) (last-end (is_eod h.flags) next last))
  where
    cases : (b : Bool) → IsUnfinished (if b then Eof h.offset ∷ [] else [])
    cases true = tt
    cases false = tt

last-block : (shift place : ℕ) (h : Header) (bytes : List ℕ) (next : List Arrival) → IsLastEod next → IsLastEod (block_then shift place h bytes next)
last-block shift place h bytes next last = cases (is_bad shift h)
  where
    cases : (b : Bool) → IsLastEod (if b then Bad (refusal place h) ∷ [] else good_block shift h bytes next)
    cases true = tt
    cases false = last-good shift h bytes next last

last-blocks : (most shift place : ℕ) (bytes : List ℕ) → IsLastEod (blocks_within most shift place bytes)
last-blocks zero shift place bytes = tt
last-blocks (suc most) shift place bytes =
    cases (header_of (take HEADER_LEN bytes)) (nat_lt (length bytes) HEADER_LEN) (λ behind later. last-blocks most shift behind later)
  where
    cases : (h : Header) (b : Bool) → ((behind : ℕ) (later : List ℕ) → IsLastEod (blocks_within most shift behind later))
        → IsLastEod (if b then [] else block_then shift place h (drop HEADER_LEN bytes) (blocks_within most shift (place + HEADER_LEN + h.count) (drop h.count (drop HEADER_LEN bytes))))
    cases h true next = tt
    cases h false next = last-block shift place h (drop HEADER_LEN bytes) (blocks_within most shift (place + HEADER_LEN + h.count) (drop h.count (drop HEADER_LEN bytes))) (next (place + HEADER_LEN + h.count) (drop h.count (drop HEADER_LEN bytes)))

pub last_eod : (shift : ℕ) (bytes : List ℕ) → IsLastEod (arrivals shift bytes)
unfolding arrivals blocks_from
last_eod shift bytes = last-blocks (length bytes) shift 0 bytes
