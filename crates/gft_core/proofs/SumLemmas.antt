-- Sums over lanes.
use Rattle.std.proofs.Common.{◌≡◌, ◌≢◌, ℕ, zero, suc, ◌+◌, ◌<◌, ◌≤◌, ◌==◌, Bool, refl, sym, ap, subst, eq-eqb, ne_eqb, arith}
use Rattle.std.specs.Prelude.{if◌then◌else◌}
use mathlib.Core.Logic.{dite}
use native.Mathlib.Decide.{ℕ_discrete}
use Rattle.gft_drive.specs.Words.{sum_below}

abbrev pub one_at : ℕ → ℕ → ℕ
one_at l k = if l == k then 1 else 0

pub one_here : (l k : ℕ) → l ≡ k → one_at l k ≡ 1
one_here l k e = ap (λ (b : Bool). if b then 1 else 0) (eq-eqb l k e)

pub none_here : (l k : ℕ) → l ≢ k → one_at l k ≡ 0
none_here l k n = ap (λ (b : Bool). if b then 1 else 0) (ne_eqb l k n)

pub sum_same : (f g : ℕ → ℕ) (n : ℕ) → ((k : ℕ) → k < n → f k ≡ g k) → sum_below f n ≡ sum_below g n
sum_same f g zero same = refl
sum_same f g (suc n) same = omega (arith, sum_same f g n (λ k h. same k (omega arith)), same n (omega arith))

pub sum_none : (n : ℕ) → sum_below (λ _. 0) n ≡ 0
sum_none zero = refl
sum_none (suc n) = omega (arith, sum_none n)

pub sum_one : (f : ℕ → ℕ) (l n : ℕ) → l < n → sum_below (λ k. f k + one_at l k) n ≡ sum_below f n + 1
sum_one f l zero h = absurd (omega arith)
sum_one f l (suc n) h =
    dite (ℕ_discrete l n)
    (λ e.
    let rest : sum_below (λ k. f k + one_at l k) n ≡ sum_below f n = sum_same (λ k. f k + one_at l k) f n (λ k lt. let z : one_at l k ≡ 0 = none_here l k (λ s. absurd (omega (arith, s, e))) in omega (arith, z)) in
    let here : one_at l n ≡ 1 = one_here l n e in
    omega (arith, rest, here))
    (λ ne.
    let rest = sum_one f l n (omega arith) in
    let here : one_at l n ≡ 0 = none_here l n ne in
    omega (arith, rest, here))

sum_le : (f g : ℕ → ℕ) (n : ℕ) → ((k : ℕ) → k < n → f k ≤ g k) → sum_below f n ≤ sum_below g n
sum_le f g zero le = omega arith
sum_le f g (suc n) le = omega (arith, sum_le f g n (λ k h. le k (omega arith)), le n (omega arith))

-- where no term is more and the sums are equal, the terms are
pub squeeze : (f g : ℕ → ℕ) (n : ℕ) → ((k : ℕ) → k < n → f k ≤ g k) → sum_below f n ≡ sum_below g n → (k : ℕ) → k < n → f k ≡ g k
squeeze f g zero le e k h = absurd (omega arith)
squeeze f g (suc n) le e k h =
    let below = sum_le f g n (λ j lt. le j (omega arith)) in
    let here = le n (omega arith) in
    dite (ℕ_discrete k n)
    (λ s. subst (λ j. f j ≡ g j) (sym s) (omega (arith, below, here, e)))
    (λ ne. squeeze f g n (λ j lt. le j (omega arith)) (omega (arith, below, here, e)) k (omega arith))
