-- A slot depends on its own bytes alone.
use Rattle.std.proofs.Common.{◌≡◌, ◌⊎◌, ⊎_elim, ℕ, zero, suc, ◌+◌, ◌*◌, ◌<◌, ◌≤◌, List, length, get_or, refl, sym, ◌∙◌, ap, arith}
use Rattle.std.proofs.Math.Nat.{mul-le-mul_left}
use Rattle.std.proofs.lemmas.List.{get_or_past}
use Rattle.gft_drive.specs.Layout.{Layout, number_at, slot_of, slot_at}
use Rattle.gft_drive.specs.Write.{Written, Torn, DiffersIn}

pub torn_differs : (at n : ℕ) (xs ys : List ℕ) → at + n ≤ length xs → Torn at n xs ys → DiffersIn at n xs ys
torn_differs at n xs ys within torn = record {
  before = λ k lt. torn.before k (omega (arith, lt, within)) lt;
  after = λ k le. ⊎_elim (λ inside. torn.after k inside le) (λ past. get_or_past ys k 0 (omega (arith, past, same)) ∙ sym (get_or_past xs k 0 past)) (cases k);
  size = same;
}
  where
    same : length ys ≡ length xs
    same = omega (arith, within, torn.no_shorter, torn.no_longer)

    cases : (k : ℕ) → (k < length xs) ⊎ (length xs ≤ k)
    cases k = Rattle.std.proofs.lemmas.Bool.cases_lt k (length xs)

pub written_differs : (at : ℕ) (bytes xs ys : List ℕ) → at + length bytes ≤ length xs → Written at bytes xs ys → DiffersIn at (length bytes) xs ys
written_differs at bytes xs ys within written = record { before = written.before; after = written.after; size = omega (arith, within, written.size) }

-- a number is its bytes, wherever they stand
pub number_moved : (xs ys : List ℕ) (at to n : ℕ) → ((k : ℕ) → k < n → get_or ys (to + k) 0 ≡ get_or xs (at + k) 0) → number_at ys to n ≡ number_at xs at n
unfolding number_at
number_moved xs ys at to zero same = refl
number_moved xs ys at to (suc n) same =
    let low = same n (omega arith) in
    let high : number_at ys to n ≡ number_at xs at n = number_moved xs ys at to n (λ k lt. same k (omega (arith, lt))) in
    omega (arith, low, high)

-- both numbers lie within the slot
pub record IsLayout (layout : Layout) : Type 0 where
  pub head : 2 ≤ layout.size
  pub start : layout.start + layout.width ≤ layout.size
  pub end : layout.end + layout.width ≤ layout.size

-- and so is a slot
pub slot_moved : (layout : Layout) (xs ys : List ℕ) (at to : ℕ) → IsLayout layout → ((k : ℕ) → k < layout.size → get_or ys (to + k) 0 ≡ get_or xs (at + k) 0) → slot_of layout ys to ≡ slot_of layout xs at
slot_moved layout xs ys at to fits same =
    let gate : get_or ys to 0 ≡ get_or xs at 0 = ap (λ (k : ℕ). get_or ys k 0) (sym (add_zero to)) ∙ same 0 (omega (arith, fits.head)) ∙ ap (λ (k : ℕ). get_or xs k 0) (add_zero at) in
    let kind : get_or ys (to + 1) 0 ≡ get_or xs (at + 1) 0 = same 1 (omega (arith, fits.head)) in
    let start = number_moved xs ys (at + layout.start) (to + layout.start) layout.width (λ k lt. moved layout.start k (omega (arith, lt, fits.start))) in
    let end = number_moved xs ys (at + layout.end) (to + layout.end) layout.width (λ k lt. moved layout.end k (omega (arith, lt, fits.end))) in
    λ i. record { gate = gate i; kind = kind i; start = start i; end = end i }
  where
    add_zero : (n : ℕ) → n + 0 ≡ n
    add_zero n = omega arith

    moved : (from k : ℕ) → from + k < layout.size → get_or ys (to + from + k) 0 ≡ get_or xs (at + from + k) 0
    moved from k lt =
        let here : to + from + k ≡ to + (from + k) = omega arith in
        let there : at + from + k ≡ at + (from + k) = omega arith in
        ap (λ (i : ℕ). get_or ys i 0) here ∙ same (from + k) lt ∙ ap (λ (i : ℕ). get_or xs i 0) (sym there)

pub slot_same : (layout : Layout) (xs ys : List ℕ) (at : ℕ) → IsLayout layout → ((k : ℕ) → k < layout.size → get_or ys (at + k) 0 ≡ get_or xs (at + k) 0) → slot_of layout ys at ≡ slot_of layout xs at
slot_same layout xs ys at fits same = slot_moved layout xs ys at at fits same

-- two slots of one bank don't overlap
pub apart : (layout : Layout) (at i j : ℕ) → i < j → slot_at layout at i + layout.size ≤ slot_at layout at j
apart layout at i j lt =
    let more : layout.size * (i + 1) ≤ layout.size * j = mul-le-mul_left layout.size (omega (arith, lt)) in
    omega (arith, more)

-- a change inside one slot leaves the bytes of the others
pub others_bytes : (layout : Layout) (at i j from n : ℕ) (xs ys : List ℕ) → (i ≡ j → ⊥)
    → slot_at layout at i ≤ from → from + n ≤ slot_at layout at i + layout.size → DiffersIn from n xs ys
    → (k : ℕ) → k < layout.size → get_or ys (slot_at layout at j + k) 0 ≡ get_or xs (slot_at layout at j + k) 0
others_bytes layout at i j from n xs ys ne low high differs k lt =
    ⊎_elim
    (λ same. absurd (ne same))
    (⊎_elim
    (λ below. differs.after (slot_at layout at j + k) (omega (arith, high, apart layout at i j below)))
    (λ above. differs.before (slot_at layout at j + k) (omega (arith, low, lt, apart layout at j i above))))
    (Rattle.std.proofs.lemmas.Bool.cases_order i j)
