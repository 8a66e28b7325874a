-- Lists, and texts cut at a separator.
use Rattle.std.proofs.Common.{◌≡◌, ℕ, eqb, List, [], ◌∷◌, ◌++◌, map, refl, ap}
use Rattle.std.specs.List.{AllZip, AllByRecursion, join_with_byte}
use Rattle.std.proofs.lemmas.List.Splits.{slice_split_none}
use Rattle.gft_base.specs.Words.{parts_at, Lacks}
use Rattle.gft_base.proofs.Lemmas.{parts_join}

-- one more element
pub more_fit : {X : Type 0} (P : X → Type 0) (xs : List X) (x : X) → AllByRecursion P xs → P x → AllByRecursion P (xs ++ x ∷ [])
more_fit P [] x all here = (here, tt)
more_fit P (y ∷ xs) x all here = (all.0, more_fit P xs x all.1 here)

-- the parts of a text of several texts are those texts
pub parts_joined : {X : Type 0} (R : List ℕ → X → Type 0) (f : X → List ℕ) (c : ℕ) (x : X) (xs : List X) → AllByRecursion (λ y. Lacks c (f y) × R (f y) y) (x ∷ xs) → AllZip R (parts_at c (join_with_byte c (map f (x ∷ xs)))) (x ∷ xs)
parts_joined R f c x [] fit =
    rw (slice_split_none (λ b. eqb b c) (f x) fit.0.0) (fit.0.1, tt)
parts_joined R f c x (y ∷ xs) fit =
    rw (parts_join c (f x) (join_with_byte c (map f (y ∷ xs))) fit.0.0) (fit.0.1, parts_joined R f c y xs fit.1)

-- a list of two lists' pairs is cut where one of them is
pub AllZip-split : {A B : Type 0} (R : A → B → Type 0) (front back : List A) (ys : List B) → AllZip R (front ++ back) ys → (fs : List B) × (bs : List B) × (ys ≡ fs ++ bs) × AllZip R front fs × AllZip R back bs
AllZip-split R [] back ys all = ([], ys, refl, tt, all)
AllZip-split R (x ∷ front) back [] all = absurd all
AllZip-split R (x ∷ front) back (y ∷ ys) all =
    let rest = AllZip-split R front back ys all.1 in
    (y ∷ rest.0, rest.1, ap (λ zs. y ∷ zs) rest.2, (all.0, rest.3), rest.4)
