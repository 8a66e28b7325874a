-- What stays of a stream's arrivals when more bytes follow, and what ends them.
use Rattle.std.proofs.Common.{◌≡◌, ℕ, zero, suc, ◌+◌, ◌-◌, ◌<◌, ◌≤◌, Bool, true, false, cond, List, [], ◌∷◌, ◌++◌, length, take, drop, ◌⊎◌, inl, inr, append_assoc, append-nil, refl, sym, ap, ◌∙◌, subst, arith, length-append, length-drop}
use Rattle.std.proofs.lemmas.Bool.{cases_lt, lt-ltb, le-ltb}
use Rattle.std.proofs.lemmas.List.{take_all, take-append-le, take-append-drop, drop-append-le, length-take-le}
use Rattle.gft_eblock.specs.declared.TheConstants.{HEADER_LEN}
use Rattle.gft_eblock.specs.Arrival.{Arrival, At, Eof, Eod, Bad}
use Rattle.gft_eblock.specs.declared.header.Header.{Header}
use Rattle.gft_eblock.specs.Header.{is_bad, is_eod, is_eof}
use Rattle.gft_eblock.specs.Spelling.{header_of}
use Rattle.gft_eblock.specs.Arrivals.{IsUnfinished, HasEnded, data_at, data_then, end_or, refusal, good_block, block_then, blocks_from, arrivals}
use Rattle.gft_eblock.proofs.BlockLemmas.{blocks_from-append, blocks_from-short, data_then-append}

-- ---- arrivals end, or they don't

pub unfinished_or_ended : (list : List Arrival) → IsUnfinished list ⊎ HasEnded list
unfinished_or_ended [] = inl tt
unfinished_or_ended (At offset value ∷ list) = unfinished_or_ended list
unfinished_or_ended (Eof total ∷ list) = unfinished_or_ended list
unfinished_or_ended (Eod ∷ list) = inr tt
unfinished_or_ended (Bad refused ∷ list) = inr tt

pub unfinished_not_ended : (list : List Arrival) → IsUnfinished list → HasEnded list → ⊥
unfinished_not_ended [] unfinished ended = ended
unfinished_not_ended (At offset value ∷ list) unfinished ended = unfinished_not_ended list unfinished ended
unfinished_not_ended (Eof total ∷ list) unfinished ended = unfinished_not_ended list unfinished ended
unfinished_not_ended (Eod ∷ list) unfinished ended = unfinished
unfinished_not_ended (Bad refused ∷ list) unfinished ended = unfinished

pub IsUnfinished-append : (a b : List Arrival) → IsUnfinished a → IsUnfinished b → IsUnfinished (a ++ b)
IsUnfinished-append [] b first next = next
IsUnfinished-append (At offset value ∷ a) b first next = IsUnfinished-append a b first next
IsUnfinished-append (Eof total ∷ a) b first next = IsUnfinished-append a b first next
IsUnfinished-append (Eod ∷ a) b first next = absurd first
IsUnfinished-append (Bad refused ∷ a) b first next = absurd first

pub IsUnfinished-data_at : (offset : ℕ) (bytes : List ℕ) → IsUnfinished (data_at offset bytes)
IsUnfinished-data_at offset [] = tt
IsUnfinished-data_at offset (value ∷ values) = IsUnfinished-data_at (offset + 1) values

-- the end stands behind an unfinished front
pub HasEnded-behind : (a b : List Arrival) → IsUnfinished a → HasEnded (a ++ b) → HasEnded b
HasEnded-behind [] b first ended = ended
HasEnded-behind (At offset value ∷ a) b first ended = HasEnded-behind a b first ended
HasEnded-behind (Eof total ∷ a) b first ended = HasEnded-behind a b first ended
HasEnded-behind (Eod ∷ a) b first ended = absurd first
HasEnded-behind (Bad refused ∷ a) b first ended = absurd first

-- ---- arrivals that go on from others

-- the second list begins with the first, and is the first where that has ended
pub record Continues (xs ys : List Arrival) : Type 0 where
  pub more : List Arrival
  pub split : ys ≡ xs ++ more
  pub last : HasEnded xs → more ≡ []

Continues-nil : (ys : List Arrival) → Continues [] ys
Continues-nil ys = record { more = ys; split = refl; last = λ ended. absurd ended }

Continues-same : (xs : List Arrival) → Continues xs xs
Continues-same xs = record { more = []; split = sym (append-nil xs); last = λ ended. refl }

Continues-behind : (front xs ys : List Arrival) → IsUnfinished front → Continues xs ys → Continues (front ++ xs) (front ++ ys)
Continues-behind front xs ys unfinished goes_on =
    record {
      more = goes_on.more;
      split = ap (λ rest. front ++ rest) goes_on.split ∙ sym (append_assoc front xs goes_on.more);
      last = λ ended. goes_on.last (HasEnded-behind front xs unfinished ended);
    }

Continues-end_or : (eod : Bool) (xs ys : List Arrival) → Continues xs ys → Continues (end_or eod xs) (end_or eod ys)
Continues-end_or true xs ys goes_on = Continues-same (Eod ∷ [])
Continues-end_or false xs ys goes_on = goes_on

-- the block's data is whole
data_whole : (offset left : ℕ) (bytes later : List ℕ) (next : List Arrival) → left ≤ length bytes → data_then offset left (bytes ++ later) next ≡ data_at offset (take left bytes) ++ next
unfolding data_then
data_whole offset left bytes later next le =
    let taken : take left (bytes ++ later) ≡ take left bytes = take-append-le left bytes later le in
    let some : left ≤ length (bytes ++ later) = omega (arith, length-append bytes later) in
    rw (taken, le-ltb (length (bytes ++ later)) left some)

pub data_cut : (offset left : ℕ) (bytes : List ℕ) (next : List Arrival) → length bytes < left → data_then offset left bytes next ≡ data_at offset bytes
unfolding data_then
data_cut offset left bytes next lt =
    let all : take left bytes ≡ bytes = take_all left bytes (omega arith) in
    rw (all, lt-ltb (length bytes) left lt) (append-nil (data_at offset bytes))

data_goes_on : (offset left : ℕ) (bytes later : List ℕ) (next : List Arrival) → length bytes < left → data_then offset left (bytes ++ later) next ≡ data_at offset bytes ++ data_then (offset + length bytes) (left - length bytes) later next
data_goes_on offset left bytes later next lt =
    let whole : length bytes + (left - length bytes) ≡ left = omega arith in
    subst (λ n. data_then offset n (bytes ++ later) next ≡ data_at offset bytes ++ data_then (offset + length bytes) (left - length bytes) later next) whole
    (data_then-append offset (left - length bytes) bytes later next)

Continues-data_then : (offset left : ℕ) (bytes later : List ℕ) (next next' : List Arrival) → (left ≤ length bytes → Continues next next') → Continues (data_then offset left bytes next) (data_then offset left (bytes ++ later) next')
Continues-data_then offset left bytes later next next' goes_on =
    elim (cases_lt (length bytes) left) [
      | inl lt ↦
          let front = data_at offset bytes in
          let rest = data_then (offset + length bytes) (left - length bytes) later next' in
          subst (λ xs. Continues xs (data_then offset left (bytes ++ later) next')) (append-nil front ∙ sym (data_cut offset left bytes next lt))
          (subst (λ ys. Continues (front ++ []) ys) (sym (data_goes_on offset left bytes later next' lt))
          (Continues-behind front [] rest (IsUnfinished-data_at offset bytes) (Continues-nil rest)))
      | inr le ↦
          let front = data_at offset (take left bytes) in
          let alone : data_then offset left bytes next ≡ front ++ next = subst (λ b. data_then offset left b next ≡ front ++ next) (append-nil bytes) (data_whole offset left bytes [] next le) in
          subst (λ xs. Continues xs (data_then offset left (bytes ++ later) next')) (sym alone)
          (subst (λ ys. Continues (front ++ next) ys) (sym (data_whole offset left bytes later next' le))
          (Continues-behind front next next' (IsUnfinished-data_at offset (take left bytes)) (goes_on le)))
    ]

IsUnfinished-eof : (eof : Bool) (total : ℕ) → IsUnfinished (cond eof (Eof total ∷ []) [])
IsUnfinished-eof true total = tt
IsUnfinished-eof false total = tt

Continues-good_block : (shift : ℕ) (h : Header) (bytes later : List ℕ) (next next' : List Arrival) → (h.count ≤ length bytes → Continues next next') → Continues (good_block shift h bytes next) (good_block shift h (bytes ++ later) next')
unfolding good_block
Continues-good_block shift h bytes later next next' goes_on =
    Continues-behind (cond (is_eof h.flags) (Eof h.offset ∷ []) []) _ _ (IsUnfinished-eof (is_eof h.flags) h.offset)
    (Continues-data_then (shift + h.offset) h.count bytes later (end_or (is_eod h.flags) next) (end_or (is_eod h.flags) next')
    (λ le. Continues-end_or (is_eod h.flags) next next' (goes_on le)))

Continues-block_then : (shift place : ℕ) (h : Header) (bytes later : List ℕ) (next next' : List Arrival) → (h.count ≤ length bytes → Continues next next') → Continues (block_then shift place h bytes next) (block_then shift place h (bytes ++ later) next')
Continues-block_then shift place h bytes later next next' goes_on =
    elim (is_bad shift h) as (λ b. Continues (cond b (Bad (refusal place h) ∷ []) (good_block shift h bytes next)) (cond b (Bad (refusal place h) ∷ []) (good_block shift h (bytes ++ later) next'))) [
      | true ↦ Continues-same (Bad (refusal place h) ∷ [])
      | false ↦ Continues-good_block shift h bytes later next next' goes_on
    ]

Continues-short : (shift place : ℕ) (bytes later : List ℕ) → length bytes < HEADER_LEN → Continues (blocks_from shift place bytes) (blocks_from shift place (bytes ++ later))
Continues-short shift place bytes later lt =
    subst (λ xs. Continues xs (blocks_from shift place (bytes ++ later))) (sym (blocks_from-short shift place bytes lt)) (Continues-nil (blocks_from shift place (bytes ++ later)))

-- a header stands in the bytes, and the rest goes on behind its block
Continues-header : (shift place : ℕ) (header tail later : List ℕ) → length header ≡ HEADER_LEN
    → Continues (blocks_from shift (place + HEADER_LEN + (header_of header).count) (drop (header_of header).count tail)) (blocks_from shift (place + HEADER_LEN + (header_of header).count) (drop (header_of header).count tail ++ later))
    → Continues (blocks_from shift place (header ++ tail)) (blocks_from shift place (header ++ tail ++ later))
Continues-header shift place header tail later len rest =
    let h = header_of header in
    let behind = place + HEADER_LEN + h.count in
    let first = blocks_from shift behind (drop h.count tail) in
    let second = blocks_from shift behind (drop h.count (tail ++ later)) in
    subst (λ xs. Continues xs (blocks_from shift place (header ++ tail ++ later))) (sym (blocks_from-append shift place header tail len))
    (subst (λ ys. Continues (block_then shift place h tail first) ys) (sym (ap (blocks_from shift place) (append_assoc header tail later) ∙ blocks_from-append shift place header (tail ++ later) len))
    (Continues-block_then shift place h tail later first second
    (λ le. subst (λ b. Continues first (blocks_from shift behind b)) (sym (drop-append-le h.count tail later le)) rest)))

pub Continues-blocks : (most shift place : ℕ) (bytes later : List ℕ) → length bytes ≤ most → Continues (blocks_from shift place bytes) (blocks_from shift place (bytes ++ later))
Continues-blocks zero shift place bytes later enough = Continues-short shift place bytes later (omega arith)
Continues-blocks (suc most) shift place bytes later enough =
    elim (cases_lt (length bytes) HEADER_LEN) [
      | inl lt ↦ Continues-short shift place bytes later lt
      | inr le ↦
          let header = take HEADER_LEN bytes in
          let tail = drop HEADER_LEN bytes in
          let h = header_of header in
          let small : length (drop h.count tail) ≤ most = omega (arith, length-drop h.count tail, length-drop HEADER_LEN bytes) in
          subst (λ b. Continues (blocks_from shift place b) (blocks_from shift place (b ++ later))) (take-append-drop HEADER_LEN bytes)
          (Continues-header shift place header tail later (length-take-le HEADER_LEN bytes le)
          (Continues-blocks most shift (place + HEADER_LEN + h.count) (drop h.count tail) later small))
    ]

-- ---- what the laws say

pub arrivals-append : (shift : ℕ) (a b : List ℕ) → Continues (arrivals shift a) (arrivals shift (a ++ b))
unfolding arrivals
arrivals-append shift a b = Continues-blocks (length a) shift 0 a b (omega arith)

pub arrivals-grow : (shift : ℕ) (a b : List ℕ) → (more : List Arrival) × (arrivals shift (a ++ b) ≡ arrivals shift a ++ more)
arrivals-grow shift a b = let goes_on = arrivals-append shift a b in (goes_on.more, goes_on.split)

pub arrivals-ended : (shift : ℕ) (a b : List ℕ) → HasEnded (arrivals shift a) → arrivals shift (a ++ b) ≡ arrivals shift a
arrivals-ended shift a b ended =
    let goes_on = arrivals-append shift a b in
    goes_on.split ∙ ap (λ more. arrivals shift a ++ more) (goes_on.last ended) ∙ append-nil (arrivals shift a)
