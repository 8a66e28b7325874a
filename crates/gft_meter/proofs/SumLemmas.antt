-- Sums over lists that are read by their places.
use Rattle.std.proofs.Common.{◌≡◌, ℕ, zero, suc, ◌+◌, ◌*◌, ◌^◌, ◌≤◌, List, [], ◌∷◌, set, sym, ap, refl, arith}
use Rattle.std.specs.Prelude.{sum_by}
use Rattle.std.proofs.lemmas.List.Sums.{sum_by-cons}
use mathlib.Core.Option.{some, some-ne-none, some-injective}
use lib.ListN.{get_elem?}

module _ {A : Type 0} where
  pub sum_by-set : (f : A → ℕ) (l : List A) (i : ℕ) (a b : A) → get_elem? l i ≡ some a → sum_by f (set l i b) + f a ≡ sum_by f l + f b
  sum_by-set f [] i a b at = absurd (some-ne-none a (sym at))
  sum_by-set f (x ∷ xs) zero a b at =
      let same : f x ≡ f a = ap f (some-injective x a at) in
      omega (arith, same, sum_by-cons f b xs, sum_by-cons f x xs)
  sum_by-set f (x ∷ xs) (suc i) a b at =
      let rest = sum_by-set f xs i a b at in
      omega (arith, rest, sum_by-cons f x (set xs i b), sum_by-cons f x xs)

  -- what is of one element is at most the sum
  pub sum_by-at : (f : A → ℕ) (l : List A) (i : ℕ) (a : A) → get_elem? l i ≡ some a → f a ≤ sum_by f l
  sum_by-at f [] i a at = absurd (some-ne-none a (sym at))
  sum_by-at f (x ∷ xs) zero a at =
      let same : f x ≡ f a = ap f (some-injective x a at) in omega (arith, same, sum_by-cons f x xs)
  sum_by-at f (x ∷ xs) (suc i) a at =
      let rest = sum_by-at f xs i a at in omega (arith, rest, sum_by-cons f x xs)

  -- each element's part of one sum is bounded by its part of another
  abbrev pub IsBoundedBy : (A → ℕ) → (A → ℕ) → List A → Type 0
  IsBoundedBy f g l = (i : ℕ) (a : A) → get_elem? l i ≡ some a → f a ≤ g a * 2 ^ 58

  pub sum_by-bounded : (f g : A → ℕ) (l : List A) → IsBoundedBy f g l → sum_by f l ≤ sum_by g l * 2 ^ 58
  sum_by-bounded f g [] b = omega arith
  sum_by-bounded f g (x ∷ xs) b =
      let here = b 0 x refl in
      let rest = sum_by-bounded f g xs (λ i a at. b (suc i) a at) in
      omega (arith, here, rest, sum_by-cons f x xs, sum_by-cons g x xs)

  -- an element that has all of the other sum has all of this one
  pub sum_by-alone : (f g : A → ℕ) (l : List A) (i : ℕ) (a : A) → IsBoundedBy f g l → get_elem? l i ≡ some a → g a ≡ sum_by g l → sum_by f l ≡ f a
  sum_by-alone f g [] i a b at all = absurd (some-ne-none a (sym at))
  sum_by-alone f g (x ∷ xs) zero a b at all =
      let same_f : f x ≡ f a = ap f (some-injective x a at) in
      let same_g : g x ≡ g a = ap g (some-injective x a at) in
      let rest = sum_by-bounded f g xs (λ j c there. b (suc j) c there) in
      omega (arith, all, same_f, same_g, rest, sum_by-cons f x xs, sum_by-cons g x xs)
  sum_by-alone f g (x ∷ xs) (suc i) a b at all =
      let le = sum_by-at g xs i a at in
      let split_f = sum_by-cons f x xs in
      let split_g = sum_by-cons g x xs in
      let here = b 0 x refl in
      let rest = sum_by-alone f g xs i a (λ j c there. b (suc j) c there) at (omega (arith, all, le, split_g)) in
      omega (arith, all, le, here, rest, split_f, split_g)
