-- The ranges of a file without a gap.
use Rattle.std.proofs.Common.{◌≡◌, ◌⊎◌, ℕ, zero, suc, ◌-◌, ◌<◌, ◌≤◌, Bool, true, false, List, [], ◌∷◌, refl, ap, subst, ⊎_elim, inl, inr, arith, true≢false}
use Rattle.std.specs.Prelude.{if◌then◌else◌, nat_eq}
use Rattle.std.proofs.lemmas.Bool.{eqb-true}
use Rattle.gft_range.specs.declared.Range.{Range}
use Rattle.gft_range.specs.Words.{HasNoGap, HasOffset, IsNormal}
use Rattle.gft_range.proofs.Lemmas.{one_list}
use Rattle.gft_book.specs.Words.{IsKeptEnd}
use Rattle.gft_receive.specs.Transfer.{whole_ranges}

at_zero : (n : ℕ) → nat_eq n 0 ≡ true → n ≡ 0
at_zero n is = eqb-true n 0 is

not_zero : (n : ℕ) → nat_eq n 0 ≡ false → 1 ≤ n
not_zero zero is = absurd (true≢false is)
not_zero (suc n) is = omega arith

-- an empty file has no range, and another has one
by_length : (P : List Range → Type 0) (len : ℕ) → (len ≡ 0 → P []) → (1 ≤ len → P (record { start = 0; end = len } ∷ [])) → P (whole_ranges len)
by_length P len none some = cases (nat_eq len 0) refl
  where
    cases : (b : Bool) → nat_eq len 0 ≡ b → P (if b then [] else record { start = 0; end = len } ∷ [])
    cases true is = none (at_zero len is)
    cases false is = some (not_zero len is)

-- offsets below the end are kept, and no others
whole_has : (len x : ℕ) → x < len → HasOffset (whole_ranges len) x
whole_has len x lt = by_length (λ (l : List Range). HasOffset l x) len (λ none. absurd (omega (arith, none, lt))) (λ some. inl (omega arith, lt))

whole_below : (len x : ℕ) → HasOffset (whole_ranges len) x → x < len
whole_below len x = by_length (λ (l : List Range). HasOffset l x → x < len) len (λ none has. absurd has) (λ some has. only has)
  where
    only : HasOffset (record { start = 0; end = len } ∷ []) x → x < len
    only (inl in_it) = in_it.1
    only (inr none) = absurd none

whole_normal : (len : ℕ) → IsNormal (whole_ranges len)
whole_normal len = by_length IsNormal len (λ none. tt) (λ some. (some, tt, tt))

split : (x y : ℕ) → x ≤ y → (x < y) ⊎ (y ≡ x)
split zero zero le = inr refl
split zero (suc y) le = inl (omega arith)
split (suc x) zero le = absurd (omega (arith, le))
split (suc x) (suc y) le = ⊎_elim (λ (lt : x < y). inl (omega (arith, lt))) (λ (is : y ≡ x). inr (ap suc is)) (split x y (omega (arith, le)))

pub ranges_whole : (ranges : List Range) (len : ℕ) → IsNormal ranges → HasNoGap ranges → IsKeptEnd ranges len → ranges ≡ whole_ranges len
ranges_whole ranges len normal no_gap end =
    one_list ranges (whole_ranges len) normal (whole_normal len)
    (λ x. (λ has. whole_has len x (end.below x has), λ has. below x (whole_below len x has)))
  where
    below : (x : ℕ) → x < len → HasOffset ranges x
    below x lt = ⊎_elim
        (λ (none : len ≡ 0). absurd (omega (arith, none, lt)))
        (λ (last : HasOffset ranges (len - 1)). up_to last)
        end.reached
      where
        at_last : (y : ℕ) → y ≡ x → HasOffset ranges y → HasOffset ranges x
        at_last y is has = subst (HasOffset ranges) is has

        up_to : HasOffset ranges (len - 1) → HasOffset ranges x
        up_to last = ⊎_elim
            (λ (under : x < len - 1). no_gap x (len - 1) under last)
            (λ (it : len - 1 ≡ x). at_last (len - 1) it last)
            (split x (len - 1) (omega (arith, lt)))
