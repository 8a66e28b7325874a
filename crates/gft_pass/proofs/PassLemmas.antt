-- The passes of all lanes, in order.
use Rattle.std.proofs.Common.{◌≡◌, ℕ, zero, suc, ◌<◌, List, [], ◌∷◌, ◌++◌, length, map, set, refl, sym, ap, ◌∙◌, subst, length-append, arith}
use mathlib.Core.Option.{some, some-ne-none, some-injective}
use mathlib.Core.Logic.{dite}
use native.Mathlib.Decide.{ℕ_discrete}
use lib.ListN.{get_elem?}
use Rattle.atomic_table.proofs.Lists.{at_map, at_longer, at_last}
use Rattle.atomic_table.specs.Seated.{TableId}
use Rattle.gft_pass.specs.declared.numbers.Numbers.{Numbers}
use Rattle.gft_pass.specs.Ledger.{AllPasses, IsAt, Lane, lanes_below}

-- ---- lists

module _ {A : Type 0} where
  in_list : (l : List A) (i : ℕ) (a : A) → get_elem? l i ≡ some a → i < length l
  in_list [] i a e = absurd (some-ne-none a (sym e))
  in_list (x ∷ xs) zero a e = omega arith
  in_list (x ∷ xs) (suc i) a e = let h = in_list xs i a e in omega arith

  there : (l : List A) (i : ℕ) → i < length l → (a : A) × (get_elem? l i ≡ some a)
  there [] i h = absurd (omega arith)
  there (x ∷ xs) zero h = (x, refl)
  there (x ∷ xs) (suc i) h = there xs i (omega arith)

  extend : (xs ys : List A) → length xs ≡ length ys → ((i : ℕ) → i < length xs → get_elem? xs i ≡ get_elem? ys i) → xs ≡ ys
  extend [] [] n same = refl
  extend [] (y ∷ ys) n same = absurd (omega arith)
  extend (x ∷ xs) [] n same = absurd (omega arith)
  extend (x ∷ xs) (y ∷ ys) n same =
      let head : x ≡ y = some-injective x y (same 0 (omega arith)) in
      let tail = extend xs ys (omega arith) (λ i h. same (suc i) (omega arith)) in
      λ k. head k ∷ tail k

  pub at_middle : (xs ys : List A) (y : A) → get_elem? (xs ++ y ∷ ys) (length xs) ≡ some y
  at_middle [] ys y = refl
  at_middle (x ∷ xs) ys y = at_middle xs ys y

  length-map : {B : Type 0} (f : A → B) (xs : List A) → length (map f xs) ≡ length xs
  length-map f [] = refl
  length-map f (x ∷ xs) = ap suc (length-map f xs)

  -- an element becomes another of the same image
  map-set : {B : Type 0} (f : A → B) (xs : List A) (i : ℕ) (a b : A) → get_elem? xs i ≡ some a → f b ≡ f a → map f (set xs i b) ≡ map f xs
  map-set f [] i a b at same = refl
  map-set f (x ∷ xs) zero a b at same = ap (λ y. y ∷ map f xs) (same ∙ ap f (sym (some-injective x a at)))
  map-set f (x ∷ xs) (suc i) a b at same = ap (λ l. f x ∷ l) (map-set f xs i a b at same)

-- ---- lanes

abbrev place_of : Lane → TableId × ℕ
place_of pass = (pass.table, pass.lane)

length-below : (t : TableId) (n : ℕ) → length (lanes_below t n) ≡ n
length-below t zero = refl
length-below t (suc n) = omega (arith, length-append (lanes_below t n) ((t, n) ∷ []), length-below t n)

below_at : (t : TableId) (n k : ℕ) → k < n → get_elem? (lanes_below t n) k ≡ some (t, k)
below_at t zero k h = absurd (omega arith)
below_at t (suc n) k h =
    dite (ℕ_discrete k n)
    (λ e. subst (λ (m : ℕ). get_elem? (lanes_below t (suc n)) m ≡ some (t, m)) (sym e) (at_last (lanes_below t n) (t, n) n (length-below t n)))
    (λ ne. at_longer (lanes_below t n) ((t, n) ∷ []) k (t, k) (below_at t n k (omega arith)))

-- ---- all passes

-- there are as many as lanes
pub AllPasses-length : (t : TableId) (n : ℕ) (passes : List Lane) → AllPasses t n passes → length passes ≡ n
AllPasses-length t n passes all = sym (length-map place_of passes) ∙ ap (λ l. length l) all ∙ length-below t n

-- the one at a place is that lane's
pub AllPasses-lane : (t : TableId) (n : ℕ) (passes : List Lane) → AllPasses t n passes → (k : ℕ) (p : Lane) → get_elem? passes k ≡ some p → (p.table ≡ t) × (p.lane ≡ k)
AllPasses-lane t n passes all k p at =
    let here : get_elem? (lanes_below t n) k ≡ some (place_of p) = ap (λ l. get_elem? l k) (sym all) ∙ at_map place_of passes k p at in
    let lt = in_list (lanes_below t n) k (place_of p) here in
    let same : place_of p ≡ (t, k) = some-injective _ _ (sym here ∙ below_at t n k (omega (arith, lt, length-below t n))) in
    (ap (λ q. q.0) same, ap (λ q. q.1) same)

-- one of them has other numbers
pub AllPasses-set : (t : TableId) (n : ℕ) (passes : List Lane) (k : ℕ) (p q : Lane) → AllPasses t n passes → get_elem? passes k ≡ some p → q.table ≡ p.table → q.lane ≡ p.lane → AllPasses t n (set passes k q)
AllPasses-set t n passes k p q all at table lane = map-set place_of passes k p q at (λ i. (table i, lane i)) ∙ all

-- where each has its listed numbers, the list is that of their numbers
pub AllPasses-counts : (t : TableId) (counts : List Numbers) (passes : List Lane) → AllPasses t (length counts) passes → ((k : ℕ) (p : Lane) → get_elem? passes k ≡ some p → IsAt counts p.lane p.count) → counts ≡ map (λ (p : Lane). p.count) passes
AllPasses-counts t counts passes all listed =
    let g : Lane → Numbers = λ q. q.count in
    let same_length = AllPasses-length t (length counts) passes all in
    extend counts (map g passes) (sym (length-map g passes ∙ same_length))
    (λ k h. let p = there passes k (omega (arith, same_length)) in
    ap (λ m. get_elem? counts m) (sym (AllPasses-lane t (length counts) passes all k p.0 p.1).1) ∙ listed k p.0 p.1 ∙ sym (at_map g passes k p.0 p.1))
