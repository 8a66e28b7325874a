-- Sums over the first numbers.
use Rattle.std.proofs.Common.{◌≡◌, ℕ, zero, suc, ◌+◌, ◌<◌, ◌≤◌, refl, ap, ◌∙◌, sym, inl, inr, arith}
use Rattle.std.proofs.lemmas.Bool.{cases_eq}
use Rattle.gft_drive.specs.Words.{sum_below}

pub sum_same : (f g : ℕ → ℕ) (n : ℕ) → ((k : ℕ) → k < n → f k ≡ g k) → sum_below f n ≡ sum_below g n
sum_same f g zero same = refl
sum_same f g (suc n) same =
    let older = sum_same f g n (λ k lt. same k (omega (arith, lt))) in
    let last = same n (omega arith) in
    omega (arith, older, last)

pub sum_at_most : (f g : ℕ → ℕ) (n : ℕ) → ((k : ℕ) → k < n → f k ≤ g k) → sum_below f n ≤ sum_below g n
sum_at_most f g zero few = omega arith
sum_at_most f g (suc n) few =
    let older = sum_at_most f g n (λ k lt. few k (omega (arith, lt))) in
    let last = few n (omega arith) in
    omega (arith, older, last)

pub sum_none : (f : ℕ → ℕ) (n : ℕ) → ((k : ℕ) → f k ≡ 0) → sum_below f n ≡ 0
sum_none f zero none = refl
sum_none f (suc n) none =
    let older = sum_none f n none in
    let last = none n in
    omega (arith, older, last)

-- each is one
pub sum_ones : (f : ℕ → ℕ) (n : ℕ) → ((k : ℕ) → k < n → f k ≡ 1) → sum_below f n ≡ n
sum_ones f zero one = refl
sum_ones f (suc n) one =
    let older = sum_ones f n (λ k lt. one k (omega (arith, lt))) in
    let last = one n (omega arith) in
    omega (arith, older, last)

-- one of them grows
pub sum_more : (f g : ℕ → ℕ) (more k n : ℕ) → k < n → g k ≡ f k + more → ((c : ℕ) → (c ≡ k → ⊥) → g c ≡ f c) → sum_below g n ≡ sum_below f n + more
sum_more f g more k zero lt grown others = absurd (omega (arith, lt))
sum_more f g more k (suc n) lt grown others = elim (cases_eq n k) [
  | inl same ↦
      let front = sum_same g f n (λ c below. others c (λ is. omega (arith, is, same, below))) in
      let last : g n ≡ f n + more = ap g same ∙ grown ∙ ap (λ x. f x + more) (sym same) in
      omega (arith, front, last)
  | inr apart ↦
      let older = sum_more f g more k n (omega (arith, lt, apart)) grown others in
      let last = others n apart in
      omega (arith, older, last)
]

-- the first apart from the rest
pub sum_first : (f : ℕ → ℕ) (n : ℕ) → sum_below f (suc n) ≡ f 0 + sum_below (λ k. f (suc k)) n
sum_first f zero = omega arith
sum_first f (suc n) = omega (arith, sum_first f n)

pub at_most_sum : (f : ℕ → ℕ) (k n : ℕ) → k < n → f k ≤ sum_below f n
at_most_sum f k zero lt = absurd (omega (arith, lt))
at_most_sum f k (suc n) lt = elim (cases_eq k n) [
  | inl same ↦ let is = ap f same in omega (arith, is)
  | inr apart ↦ let older = at_most_sum f k n (omega (arith, lt, apart)) in omega (arith, older)
]
