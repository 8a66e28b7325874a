-- EODs of the passes, against the numbers of a plan.
use Rattle.std.proofs.Common.{◌≡◌, ℕ, zero, suc, ◌+◌, ◌<◌, ◌≤◌, List, [], ◌∷◌, length, refl, ap, subst, ⊎_elim, arith}
use Rattle.std.specs.Prelude.{slice_get, sum_by}
use Rattle.std.proofs.lemmas.List.Sums.{sum_by-cons}
use Rattle.std.proofs.lemmas.Option.{same_Some}
use Rattle.std.proofs.lemmas.Bool.{cases_lt}
use mathlib.Core.Logic.{dite}
use native.Mathlib.Decide.{ℕ_discrete}
use Rattle.gft_drive.specs.Words.{sum_below}
use Rattle.gft_pass.specs.declared.Numbers.{Numbers}
use Rattle.gft_pass.specs.Words.{IsAt}
use Rattle.gft_pass.proofs.Lemmas.{eods_at, eods_at-here, eods_at-or}

sum_zero : (n : ℕ) → sum_below (λ _. 0) n ≡ 0
sum_zero zero = refl
sum_zero (suc n) = omega (arith, sum_zero n)

sum_shift : (f : ℕ → ℕ) (n : ℕ) → sum_below f (suc n) ≡ f 0 + sum_below (λ k. f (suc k)) n
sum_shift f zero = omega arith
sum_shift f (suc n) = omega (arith, sum_shift f n)

sum_eods : (l : List Numbers) (n : ℕ) → length l ≤ n → sum_below (eods_at l) n ≡ sum_by (λ (m : Numbers). m.eods) l
sum_eods [] n le = sum_zero n
sum_eods (x ∷ xs) zero le = absurd (omega arith)
sum_eods (x ∷ xs) (suc n) le =
    let rest = sum_eods xs n (omega arith) in
    omega (arith, rest, sum_shift (eods_at (x ∷ xs)) n, sum_by-cons (λ (m : Numbers). m.eods) x xs)

sum_more : (f : ℕ → ℕ) (n m : ℕ) → ((k : ℕ) → n ≤ k → f k ≡ 0) → sum_below f (m + n) ≡ sum_below f n
sum_more f n zero none = ap (λ (j : ℕ). sum_below f j) (omega arith)
sum_more f n (suc m) none = let step : sum_below f (suc m + n) ≡ sum_below f (m + n) + f (m + n) = one f (m + n) (suc m + n) (omega arith) in omega (arith, step, sum_more f n m none, none (m + n) (omega arith))
  where
    one : (g : ℕ → ℕ) (a b : ℕ) → b ≡ suc a → sum_below g b ≡ sum_below g a + g a
    one g a b e = ap (λ (j : ℕ). sum_below g j) e

sum_le : (f g : ℕ → ℕ) (n : ℕ) → ((k : ℕ) → k < n → f k ≤ g k) → sum_below f n ≤ sum_below g n
sum_le f g zero le = omega arith
sum_le f g (suc n) le = omega (arith, sum_le f g n (λ k h. le k (omega arith)), le n (omega arith))

sum_lt : (f g : ℕ → ℕ) (n : ℕ) → ((k : ℕ) → k < n → f k ≤ g k) → (j : ℕ) → j < n → f j < g j → sum_below f n < sum_below g n
sum_lt f g zero le j h lt = absurd (omega arith)
sum_lt f g (suc n) le j h lt =
    let below = sum_le f g n (λ k q. le k (omega arith)) in
    let here = le n (omega arith) in
    dite (ℕ_discrete j n)
    (λ e. let strict : f n < g n = subst (λ (i : ℕ). f i < g i) e lt in omega (arith, below, strict))
    (λ ne. let rest = sum_lt f g n (λ k q. le k (omega arith)) j (omega arith) lt in omega (arith, rest, here))

-- where no term is more and the sums are equal, the terms are
squeeze : (f g : ℕ → ℕ) (n : ℕ) → ((k : ℕ) → k < n → f k ≤ g k) → sum_below f n ≡ sum_below g n → (k : ℕ) → k < n → f k ≡ g k
squeeze f g n le e k h =
    ⊎_elim
    (λ lt. let strict = sum_lt f g n le k h lt in absurd (omega (arith, e, strict)))
    (λ ge. let less = le k h in omega (arith, ge, less))
    (cases_lt (f k) (g k))

module _ (l : List Numbers) (number : ℕ → ℕ) (lanes : ℕ) (no_more : (lane : ℕ) → lanes ≤ lane → number lane ≡ 0) (most : (k : ℕ) (n : Numbers) → IsAt l k n → n.eods ≤ number k) where
  each : (k : ℕ) → eods_at l k ≤ number k
  each k = ⊎_elim (λ h. let e = eods_at-here l k h.0 h.1 in omega (arith, e, most k h.0 h.1)) (λ z. omega (arith, z)) (eods_at-or l k)

  -- as many EODs as the plan has
  pub eods_most : sum_by (λ (m : Numbers). m.eods) l ≤ sum_below number lanes
  eods_most = omega (arith, sum_eods l (length l + lanes) (omega arith), sum_more number lanes (length l) no_more, sum_le (eods_at l) number (length l + lanes) (λ k h. each k))

  -- and fewer where one pass has fewer
  pub eods_fewer : (j : ℕ) (n : Numbers) → IsAt l j n → n.eods < number j → sum_by (λ (m : Numbers). m.eods) l < sum_below number lanes
  eods_fewer j n at lt =
      let here : eods_at l j ≡ n.eods = eods_at-here l j n at in
      let inside : j < lanes = ⊎_elim (λ h. h) (λ past. absurd (omega (arith, no_more j past, lt))) (cases_lt j lanes) in
      let strict = sum_lt (eods_at l) number (length l + lanes) (λ k h. each k) j (omega (arith, inside)) (omega (arith, here, lt)) in
      omega (arith, strict, sum_eods l (length l + lanes) (omega arith), sum_more number lanes (length l) no_more)

  -- where all EODs have come, each lane has had its own
  pub eods_all : sum_by (λ (m : Numbers). m.eods) l ≡ sum_below number lanes → (k : ℕ) → k < lanes → eods_at l k ≡ number k
  eods_all e k h =
      squeeze (eods_at l) number (length l + lanes) (λ j q. each j)
      (omega (arith, e, sum_eods l (length l + lanes) (omega arith), sum_more number lanes (length l) no_more)) k (omega (arith, h))

-- two ends of one set
pub same_end : (a b : ℕ) → ((x : ℕ) → x < a → x < b) → ((x : ℕ) → x < b → x < a) → a ≡ b
same_end a b f g =
    ⊎_elim
    (λ lt. let h = g a lt in absurd (omega (arith, h)))
    (λ le. ⊎_elim (λ lt. let h = f b lt in absurd (omega (arith, h))) (λ ge. omega (arith, le, ge)) (cases_lt b a))
    (cases_lt a b)

-- lists of one length with the same elements
pub same_list : (xs ys : List ℕ) → length xs ≡ length ys → ((x : ℕ) → x < length xs → slice_get xs x ≡ slice_get ys x) → xs ≡ ys
same_list [] [] n same = refl
same_list [] (y ∷ ys) n same = absurd (omega arith)
same_list (x ∷ xs) [] n same = absurd (omega arith)
same_list (x ∷ xs) (y ∷ ys) n same =
    let head : x ≡ y = same_Some x y (same 0 (omega arith)) in
    let tail = same_list xs ys (omega arith) (λ i h. same (suc i) (omega arith)) in
    λ k. head k ∷ tail k
