-- How a stream's arrivals follow from those of its parts.
use Rattle.std.proofs.Common.{◌≡◌, ℕ, zero, suc, ◌+◌, ◌-◌, ◌<◌, ◌≤◌, cond, ltb, List, [], ◌∷◌, ◌++◌, length, take, drop, append_assoc, refl, sym, ap, ◌∙◌, subst, arith, length-drop, length-append, add-zero, inl, inr}
use Rattle.std.proofs.Math.Seq.{take-append_seam, drop-append_seam, take-append-add}
use Rattle.std.proofs.lemmas.Bool.{cases_lt, lt-ltb, le-ltb}
use Rattle.gft_eblock.specs.declared.TheConstants.{HEADER_LEN}
use Rattle.gft_eblock.specs.Spelling.{header_of}
use Rattle.gft_eblock.specs.Arrival.{Arrival, At}
use Rattle.gft_eblock.specs.Arrivals.{data_at, data_then, block_then, blocks_within, blocks_from}

-- ---- data

pub data_at-append : (offset : ℕ) (a b : List ℕ) → data_at offset (a ++ b) ≡ data_at offset a ++ data_at (offset + length a) b
data_at-append offset [] b = ap (λ n. data_at n b) (sym (add-zero offset))
data_at-append offset (v ∷ a) b =
    ap (λ rest. At offset v ∷ rest) (data_at-append (offset + 1) a b ∙ ap (λ n. data_at (offset + 1) a ++ data_at n b) (omega arith))

-- a front that is taken out of the data
pub data_then-append : (offset rest : ℕ) (front later : List ℕ) (next : List Arrival) → data_then offset (length front + rest) (front ++ later) next ≡ data_at offset front ++ data_then (offset + length front) rest later next
unfolding data_then
data_then-append offset rest front later next =
    rw (take-append-add front later rest, data_at-append offset front (take rest later), length-append front later, append_assoc)
    (ap (λ b. data_at offset front ++ (data_at (offset + length front) (take rest later) ++ cond b [] next))
    (elim (cases_lt (length later) rest) [
      | inl lt ↦ lt-ltb _ _ (omega arith) ∙ sym (lt-ltb _ _ lt)
      | inr le ↦ le-ltb _ _ (omega arith) ∙ sym (le-ltb _ _ le)
    ]))

-- no data is left
pub data_then-zero : (offset : ℕ) (later : List ℕ) (next : List Arrival) → data_then offset 0 later next ≡ next
unfolding data_then
data_then-zero offset later next = rw (le-ltb (length later) 0 (omega arith))

-- ---- blocks

-- more blocks than there are bytes are never read
within_enough : (m n shift place : ℕ) (bytes : List ℕ) → length bytes ≤ m → length bytes ≤ n → blocks_within m shift place bytes ≡ blocks_within n shift place bytes
within_enough zero zero shift place bytes le_m le_n = refl
within_enough zero (suc n) shift place bytes le_m le_n = rw (lt-ltb (length bytes) HEADER_LEN (omega arith))
within_enough (suc m) zero shift place bytes le_m le_n = rw (lt-ltb (length bytes) HEADER_LEN (omega arith))
within_enough (suc m) (suc n) shift place bytes le_m le_n =
    let h = header_of (take HEADER_LEN bytes) in
    let rest = drop h.count (drop HEADER_LEN bytes) in
    let short : length rest ≤ length bytes - HEADER_LEN = omega (arith, length-drop h.count (drop HEADER_LEN bytes), length-drop HEADER_LEN bytes) in
    ap (λ next. cond (ltb (length bytes) HEADER_LEN) [] (block_then shift place h (drop HEADER_LEN bytes) next))
    (within_enough m n shift (place + HEADER_LEN + h.count) rest (omega arith) (omega arith))

-- less than a header brings nothing
pub blocks_from-short : (shift place : ℕ) (bytes : List ℕ) → length bytes < HEADER_LEN → blocks_from shift place bytes ≡ []
unfolding blocks_from
blocks_from-short shift place [] lt = refl
blocks_from-short shift place (b ∷ bytes) lt = rw (lt-ltb (length (b ∷ bytes)) HEADER_LEN lt)

blocks_from-take : (shift place : ℕ) (bytes : List ℕ) → HEADER_LEN ≤ length bytes → blocks_from shift place bytes ≡ (let h = header_of (take HEADER_LEN bytes) in block_then shift place h (drop HEADER_LEN bytes) (blocks_from shift (place + HEADER_LEN + h.count) (drop h.count (drop HEADER_LEN bytes))))
unfolding blocks_from
blocks_from-take shift place [] le = absurd (omega arith)
blocks_from-take shift place (b ∷ bytes) le =
    let whole = b ∷ bytes in
    let h = header_of (take HEADER_LEN whole) in
    let rest = drop h.count (drop HEADER_LEN whole) in
    let short : length rest ≤ length bytes = omega (arith, length-drop h.count (drop HEADER_LEN whole), length-drop HEADER_LEN whole) in
    rw (le-ltb (length whole) HEADER_LEN le)
    (ap (λ next. block_then shift place h (drop HEADER_LEN whole) next)
    (within_enough (length bytes) (length rest) shift (place + HEADER_LEN + h.count) rest short (omega arith)))

-- a header and what follows it
pub blocks_from-append : (shift place : ℕ) (header later : List ℕ) → length header ≡ HEADER_LEN → blocks_from shift place (header ++ later) ≡ block_then shift place (header_of header) later (blocks_from shift (place + HEADER_LEN + (header_of header).count) (drop (header_of header).count later))
blocks_from-append shift place header later len =
    let front : take HEADER_LEN (header ++ later) ≡ header = subst (λ n. take n (header ++ later) ≡ header) len (take-append_seam header later) in
    let back : drop HEADER_LEN (header ++ later) ≡ later = subst (λ n. drop n (header ++ later) ≡ later) len (drop-append_seam header later) in
    blocks_from-take shift place (header ++ later) (omega (arith, length-append header later)) ∙ rw (front, back)
