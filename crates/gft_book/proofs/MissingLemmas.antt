-- The first range of a list that isn't kept.
use Rattle.std.proofs.Common.{◌≡◌, ◌⊎◌, ℕ, zero, suc, ◌+◌, ◌<◌, ◌≤◌, List, [], ◌∷◌, length, take, Some, None, sym, subst, ⊎_elim, inl, inr, arith}
use Rattle.std.specs.Prelude.{slice_get}
use Rattle.std.proofs.lemmas.Option.{none-some, same_Some}
use Rattle.gft_range.specs.declared.Range.{Range}
use Rattle.gft_range.specs.Words.{BeginsAbove, HasOffset, InRange, IsMissing, IsNormal}
use Rattle.gft_range.proofs.Lemmas.{HasOffset-or}
use Rattle.gft_book.specs.Begin.{IsFirstUnkept}

-- ---- normal lists

-- an offset of a normal list that begins above x is above x
above_first : (rs : List Range) (x y : ℕ) → IsNormal rs → BeginsAbove x rs → HasOffset rs y → x < y
above_first [] x y normal above has = absurd has
above_first (r ∷ rs) x y normal above has =
    ⊎_elim
    (λ (here : InRange r y). omega (arith, above, here.0))
    (λ (later : HasOffset rs y). let less = above_first rs r.end y normal.2 normal.1 later in omega (arith, above, normal.0, less))
    has

-- no offset of a normal list is below its first
first_least : (r : Range) (rs : List Range) (y : ℕ) → IsNormal (r ∷ rs) → HasOffset (r ∷ rs) y → r.start ≤ y
first_least r rs y normal has =
    ⊎_elim
    (λ (here : InRange r y). here.0)
    (λ (later : HasOffset rs y). let less = above_first rs r.end y normal.2 normal.1 later in omega (arith, normal.0, less))
    has

-- an offset of a normal list is before, in or behind its i-th range
parts : (rs : List Range) (i : ℕ) (r : Range) (x : ℕ) → IsNormal rs → slice_get rs i ≡ Some r → HasOffset rs x → HasOffset (take i rs) x ⊎ (InRange r x ⊎ (r.end ≤ x))
parts [] i r x normal at has = absurd has
parts (q ∷ qs) zero r x normal at has =
    let same : q ≡ r = same_Some q r at in
    ⊎_elim
    (λ here. inr (inl (subst (λ (p : Range). InRange p x) same here)))
    (λ later. inr (inr (subst (λ (p : Range). p.end ≤ x) same (above (later)))))
    has
  where
    above : HasOffset qs x → q.end ≤ x
    above later = let less = above_first qs q.end x normal.2 normal.1 later in omega (arith, less)
parts (q ∷ qs) (suc i) r x normal at has =
    ⊎_elim
    (λ here. inl (inl here))
    (λ later. ⊎_elim (λ before. inl (inr before)) (λ rest. inr rest) (parts qs i r x normal.2 at later))
    has

take_more : (rs : List Range) (i : ℕ) (r : Range) (x : ℕ) → slice_get rs i ≡ Some r → HasOffset (take (suc i) rs) x → HasOffset (take i rs) x ⊎ InRange r x
take_more [] i r x at has = absurd has
take_more (q ∷ qs) zero r x at has = ⊎_elim (λ here. inr (subst (λ (p : Range). InRange p x) (same_Some q r at) here)) (λ later. absurd (none qs later)) has
  where
    none : (l : List Range) → HasOffset (take zero l) x → ⊥
    none [] h = h
    none (y ∷ ys) h = h
take_more (q ∷ qs) (suc i) r x at has = ⊎_elim (λ here. inl (inl here)) (λ later. ⊎_elim (λ before. inl (inr before)) (λ here. inr here) (take_more qs i r x at later)) has

take_past : (rs : List Range) (i x : ℕ) → slice_get rs i ≡ None → HasOffset (take (suc i) rs) x → HasOffset (take i rs) x
take_past [] i x at has = absurd has
take_past (q ∷ qs) zero x at has = absurd (none-some q (sym at))
take_past (q ∷ qs) (suc i) x at has = ⊎_elim (λ here. inl here) (λ later. inr (take_past qs i x at later)) has

one_more : (i : ℕ) → i + 1 ≡ suc i
one_more i = omega arith

pub more_has : (kept list : List Range) (i : ℕ) (r : Range) → slice_get list i ≡ Some r → IsMissing kept r [] → ((x : ℕ) → HasOffset (take i list) x → HasOffset kept x) → (x : ℕ) → HasOffset (take (i + 1) list) x → HasOffset kept x
more_has kept list i r at missing before x c =
    ⊎_elim
    (λ was. before x was)
    (λ here. ⊎_elim (λ has. has) (λ lacks. absurd ((missing.offsets x).1 (here, lacks))) (HasOffset-or kept x))
    (take_more list i r x at (subst (λ (n : ℕ). HasOffset (take n list) x) (one_more i) c))

pub past_has : (kept list : List Range) (i : ℕ) → slice_get list i ≡ None → ((x : ℕ) → HasOffset (take i list) x → HasOffset kept x) → (x : ℕ) → HasOffset (take (i + 1) list) x → HasOffset kept x
past_has kept list i at before x c = before x (take_past list i x at (subst (λ (n : ℕ). HasOffset (take n list) x) (one_more i) c))

-- all of a list is its first ranges
pub all_has : (list : List Range) (i x : ℕ) → length list ≤ i → HasOffset list x → HasOffset (take i list) x
all_has [] i x le has = absurd has
all_has (r ∷ rs) zero x le has = absurd (omega (arith, le))
all_has (r ∷ rs) (suc i) x le has = ⊎_elim (λ here. inl here) (λ later. inr (all_has rs i x (omega (arith, le)) later)) has

pub none_has : (list : List Range) (x : ℕ) → HasOffset (take 0 list) x → ⊥
none_has [] x h = h
none_has (r ∷ rs) x h = h

in_nth : (rs : List Range) (i : ℕ) (r : Range) (x : ℕ) → slice_get rs i ≡ Some r → InRange r x → HasOffset rs x
in_nth [] i r x at here = absurd (none-some r at)
in_nth (q ∷ qs) zero r x at here = inl (subst (λ (p : Range). InRange p x) (sym (same_Some q r at)) here)
in_nth (q ∷ qs) (suc i) r x at here = inr (in_nth qs i r x at here)

pub first_of : (kept list : List Range) (i : ℕ) (r gap : Range) (rest : List Range) → IsNormal list → slice_get list i ≡ Some r → IsMissing kept r (gap ∷ rest) → ((x : ℕ) → HasOffset (take i list) x → HasOffset kept x) → IsFirstUnkept kept list gap
first_of kept list i r gap rest normal at missing before =
    record {
      some = missing.normal.0;
      in_list = λ x here. in_nth list i r x at ((missing.offsets x).0 (inl here)).0;
      not_kept = λ x here. ((missing.offsets x).0 (inl here)).1;
      first = λ x lt c. ⊎_elim
          (λ was. before x was)
          (λ other. ⊎_elim
          (λ here. ⊎_elim (λ has. has) (λ lacks. let least = first_least gap rest x missing.normal ((missing.offsets x).1 (here, lacks)) in absurd (omega (arith, lt, least))) (HasOffset-or kept x))
          (λ behind. let inside = ((missing.offsets gap.start).0 (inl (omega arith, missing.normal.0))).0.1 in absurd (omega (arith, lt, behind, inside)))
          other)
          (parts list i r x normal at c);
    }
