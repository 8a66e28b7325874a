-- Lists as the slices and tables of this crate need them.
use Rattle.std.proofs.Common.{◌≡◌, ℕ, zero, suc, List, [], ◌∷◌, ◌++◌, length, map, set, take, drop, Some, refl, sym, ap, ◌∙◌, subst}
use Rattle.std.specs.Prelude.{slice_get}
use Rattle.std.specs.List.{refill}
use mathlib.Core.Option.{some}
use lib.ListN.{get_elem?}

module _ {A : Type 0} where
  -- a slice that is written back whole
  pub refilled : (old new : List A) → length new ≡ length old → refill (length old) old new ≡ new
  refilled old new same = subst (λ (n : ℕ). take n (new ++ drop (length new) old) ≡ new) same (ap (λ (l : List A). take (length new) (new ++ l)) (subst (λ (n : ℕ). drop n old ≡ []) (sym same) (drop_whole old)) ∙ taken_whole new)
    where
      drop_whole : (l : List A) → drop (length l) l ≡ []
      drop_whole [] = refl
      drop_whole (x ∷ l) = drop_whole l

      taken_whole : (l : List A) → take (length l) (l ++ []) ≡ l
      taken_whole [] = refl
      taken_whole (x ∷ l) = ap (λ (t : List A). x ∷ t) (taken_whole l)

  -- by the length that the list says
  pub refilled_by : (old new : List A) (n : ℕ) → length new ≡ length old → n ≡ length old → refill n old new ≡ new
  refilled_by old new n same is = subst (λ (m : ℕ). refill m old new ≡ new) (sym is) (refilled old new same)

  pub same_some : (a b : A) → Some a ≡ Some b → a ≡ b
  same_some a b e = cc

  -- an element that is there, for the other word of looking
  pub elem_at : (l : List A) (k : ℕ) (x : A) → slice_get l k ≡ Some x → get_elem? l k ≡ some x
  elem_at [] k x at = cc
  elem_at (y ∷ ys) zero x at = ap (λ (a : A). some a) (same_some y x at)
  elem_at (y ∷ ys) (suc k) x at = elem_at ys k x at

  pub at_front : (l r : List A) (k : ℕ) (x : A) → slice_get l k ≡ Some x → slice_get (l ++ r) k ≡ Some x
  at_front [] r k x at = cc
  at_front (y ∷ ys) r zero x at = at
  at_front (y ∷ ys) r (suc k) x at = at_front ys r k x at

  pub at_last : (l : List A) (x : A) → slice_get (l ++ x ∷ []) (length l) ≡ Some x
  at_last [] x = refl
  at_last (y ∷ ys) x = at_last ys x

  pub set_last : (l : List A) (x y : A) → set (l ++ x ∷ []) (length l) y ≡ l ++ y ∷ []
  set_last [] x y = refl
  set_last (z ∷ zs) x y = ap (λ (l : List A). z ∷ l) (set_last zs x y)

module _ {A B : Type 0} (f : A → B) where
  pub at_map : (l : List A) (k : ℕ) (x : A) → slice_get l k ≡ Some x → slice_get (map f l) k ≡ Some (f x)
  at_map [] k x at = cc
  at_map (y ∷ ys) zero x at = ap (λ (a : A). Some (f a)) (same_some y x at)
  at_map (y ∷ ys) (suc k) x at = at_map ys k x at

  pub record IsMapped (l : List A) (k : ℕ) (y : B) : Type 0 where
    pub from : A
    pub at : slice_get l k ≡ Some from
    pub is : f from ≡ y

  pub mapped_at : (l : List A) (k : ℕ) (y : B) → slice_get (map f l) k ≡ Some y → IsMapped l k y
  mapped_at [] k y at = cc
  mapped_at (x ∷ xs) zero y at = record { from = x; at = refl; is = same_some (f x) y at }
  mapped_at (x ∷ xs) (suc k) y at = let h = mapped_at xs k y at in record { from = h.from; at = h.at; is = h.is }
