-- The six low bytes of a number, the highest first.
use Rattle.std.proofs.Common.{◌≡◌, ◌⊎◌, inl, inr, ⊎_elim, ℕ, ◌+◌, ◌*◌, ◌<◌, ◌^◌, List, get_or, sym, ◌∙◌, ap, subst, arith}
use Rattle.std.proofs.lemmas.Bool.{cases_lt}
use Rattle.std.specs.Int.{to_be_bytes, from_be_bytes, w64}
use Rattle.std.proofs.lemmas.Nat.{from_be_bytes-to_be_bytes_8}
use Rattle.gft_drive.specs.Words.{first_layout, IsPad, IsPadded}

pub low_six : (n : ℕ) (bs : List ℕ) → n < 2 ^ 48 → bs ≡ to_be_bytes w64 n
    → 256 * (256 * (256 * (256 * (256 * (256 * 0 + get_or bs 2 0) + get_or bs 3 0) + get_or bs 4 0) + get_or bs 5 0) + get_or bs 6 0) + get_or bs 7 0 ≡ n
low_six n bs small is =
    let back : from_be_bytes w64 bs ≡ n = ap (λ (l : List ℕ). from_be_bytes w64 l) is ∙ from_be_bytes-to_be_bytes_8 n (omega (arith, small)) in
    omega (arith, back)

-- the two bytes between the numbers of the first layout
pub first_pads : (k : ℕ) → IsPad first_layout k → (k ≡ 8) ⊎ (k ≡ 9)
first_pads k (some, lt, inl low, end) = absurd (omega (arith, some, low))
first_pads k (some, lt, inr start, inr high) = absurd (omega (arith, lt, high))
first_pads k (some, lt, inr start, inl end) = ⊎_elim (λ below. inl (omega (arith, below, start))) (λ above. inr (omega (arith, above, end))) (cases_lt k 9)

pub padded_by : (slot : List ℕ) → get_or slot 8 0 ≡ 0 → get_or slot 9 0 ≡ 0 → IsPadded first_layout slot 0
padded_by slot first second k pad =
    let P : ℕ → Type 0 = λ i. get_or slot i 0 ≡ 0 in
    let none : 0 + k ≡ k = omega arith in
    subst P (sym none) (⊎_elim (λ is. subst P (sym is) first) (λ is. subst P (sym is) second) (first_pads k pad))
