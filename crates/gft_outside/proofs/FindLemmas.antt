-- The first of a list that passes a test, and the list without those that do.
use Rattle.std.proofs.Common.{◌≡◌, ℕ, zero, suc, inl, inr, ◌+◌, ◌<◌, ◌≤◌, Bool, true, false, not, cond, ltb, if◌then◌else◌, List, [], ◌∷◌, ◌++◌, length, get_or, set, take, drop, Option, None, Some, refl, sym, ap, ◌∙◌, arith}
use Rattle.std.specs.List.{filter, find, position, position_or_len, remove}
use Rattle.std.specs.Option.{is_some}
use Rattle.std.proofs.lemmas.Bool.{cases_lt, lt-ltb}
use Rattle.std.proofs.lemmas.Option.{same_Some}
use Rattle.std.proofs.lemmas.List.Quantifiers.{position-Some}

module _ {X : Type 0} (p : X → Bool) where
  -- the test fails
  abbrev pub fails_at : X → Bool
  fails_at x = not (p x)

  behind : (xs : List X) → length xs ≤ position_or_len p xs → (find p xs ≡ None) × (filter fails_at xs ≡ xs)
  behind [] le = (refl, refl)
  behind (x ∷ xs) le = step (p x) refl (λ less. behind xs less)
    where
      step : (b : Bool) → p x ≡ b → (length xs ≤ position_or_len p xs → (find p xs ≡ None) × (filter fails_at xs ≡ xs))
          → (cond (p x) (Some x) (find p xs) ≡ None) × ((if not (p x) then x ∷ filter fails_at xs else filter fails_at xs) ≡ x ∷ xs)
      step true e later =
          let here : position_or_len p (x ∷ xs) ≡ 0 = ap (λ (c : Bool). cond (not c) (1 + position_or_len p xs) 0) e in
          absurd (omega (arith, le, here))
      step false e later =
          let here : position_or_len p (x ∷ xs) ≡ 1 + position_or_len p xs = ap (λ (c : Bool). cond (not c) (1 + position_or_len p xs) 0) e in
          let rest = later (omega (arith, le, here)) in (
            ap (λ (c : Bool). cond c (Some x) (find p xs)) e ∙ rest.0,
            ap (λ (c : Bool). if not c then x ∷ filter fails_at xs else filter fails_at xs) e ∙ ap (λ (l : List X). x ∷ l) rest.1,
          )

  some_none : (n m : ℕ) → cond (ltb n m) (Some n) None ≡ None → m ≤ n
  some_none n m e = elim (cases_lt n m) [
    | inl lt ↦ absurd (let is = ap (λ (c : Bool). cond c (Some n) None) (lt-ltb n m lt) in cc)
    | inr le ↦ le
  ]

  -- none passes
  pub nowhere : (xs : List X) → position p xs ≡ None → (find p xs ≡ None) × (filter fails_at xs ≡ xs)
  nowhere xs e = behind xs (some_none (position_or_len p xs) (length xs) e)

  at_first : (xs : List X) (at : ℕ) (d : X) → at < length xs → p (get_or xs at d) ≡ true → ((k : ℕ) → k < at → p (get_or xs k d) ≡ false)
      → (find p xs ≡ Some (get_or xs at d)) × (filter fails_at (remove xs at) ≡ filter fails_at xs)
  at_first [] at d lt is before = absurd (omega arith)
  at_first (x ∷ xs) zero d lt is before = (
    ap (λ (c : Bool). cond c (Some x) (find p xs)) is,
    sym (ap (λ (c : Bool). if not c then x ∷ filter fails_at xs else filter fails_at xs) is),
  )
  at_first (x ∷ xs) (suc at) d lt is before =
      let here : p x ≡ false = before 0 (omega arith) in
      let rest = at_first xs at d (omega arith) is (λ k le. before (suc k) (omega arith)) in (
        ap (λ (c : Bool). cond c (Some x) (find p xs)) here ∙ rest.0,
        ap (λ (c : Bool). if not c then x ∷ filter fails_at (remove xs at) else filter fails_at (remove xs at)) here
            ∙ ap (λ (l : List X). x ∷ l) rest.1
            ∙ sym (ap (λ (c : Bool). if not c then x ∷ filter fails_at xs else filter fails_at xs) here),
      )

  -- the first that passes stands there
  pub first_there : (xs : List X) (at : ℕ) (d : X) → position p xs ≡ Some at
      → (at < length xs) × (find p xs ≡ Some (get_or xs at d)) × (filter fails_at (remove xs at) ≡ filter fails_at xs)
  first_there xs at d e =
      let there = position-Some p xs at d e in
      let is = at_first xs at d there.0 there.1 there.2 in
      (there.0, is.0, is.1)

  -- where none is found, none is left out
  pub none_left : (xs : List X) → find p xs ≡ None → filter fails_at xs ≡ xs
  none_left [] e = refl
  none_left (x ∷ xs) e = step (p x) refl (none_left xs) e
    where
      step : (b : Bool) → p x ≡ b → (find p xs ≡ None → filter fails_at xs ≡ xs) → cond b (Some x) (find p xs) ≡ None
          → (if not b then x ∷ filter fails_at xs else filter fails_at xs) ≡ x ∷ xs
      step true h later is = cc
      step false h later is = ap (λ (l : List X). x ∷ l) (later is)

  -- what is left has none that passes
  pub find_left : (xs : List X) → find p (filter fails_at xs) ≡ None
  find_left [] = refl
  find_left (x ∷ xs) = step (p x) refl (find_left xs)
    where
      step : (b : Bool) → p x ≡ b → find p (filter fails_at xs) ≡ None → find p (if not b then x ∷ filter fails_at xs else filter fails_at xs) ≡ None
      step true e later = later
      step false e later = ap (λ (c : Bool). cond c (Some x) (find p (filter fails_at xs))) e ∙ later

  -- and the first that passes another test, which none that is left out passes, stays
  pub find_other : (q : X → Bool) → ((x : X) → p x ≡ true → q x ≡ false) → (xs : List X) → find q (filter fails_at xs) ≡ find q xs
  find_other q apart [] = refl
  find_other q apart (x ∷ xs) = step (p x) refl (find_other q apart xs)
    where
      step : (b : Bool) → p x ≡ b → find q (filter fails_at xs) ≡ find q xs
          → find q (if not b then x ∷ filter fails_at xs else filter fails_at xs) ≡ cond (q x) (Some x) (find q xs)
      step true e later = later ∙ sym (ap (λ (c : Bool). cond c (Some x) (find q xs)) (apart x e))
      step false e later = ap (λ (l : Option X). cond (q x) (Some x) l) later

  -- what is found passes
  pub found_passes : (xs : List X) (x : X) → find p xs ≡ Some x → p x ≡ true
  found_passes [] x e = cc
  found_passes (y ∷ ys) x e = step (p y) refl (found_passes ys x) e
    where
      step : (b : Bool) → p y ≡ b → (find p ys ≡ Some x → p x ≡ true) → cond b (Some y) (find p ys) ≡ Some x → p x ≡ true
      step true h later is = let same : y ≡ x = same_Some y x is in ap p (sym same) ∙ h
      step false h later is = later is

  -- another in a place: it is found where the first one was that passed
  pub find_put : (xs : List X) (at : ℕ) (y d : X) → at < length xs → p (get_or xs at d) ≡ false → p y ≡ false → find p (set xs at y) ≡ find p xs
  find_put [] at y d lt was now = absurd (omega arith)
  find_put (x ∷ xs) zero y d lt was now =
      ap (λ (c : Bool). cond c (Some y) (find p xs)) now ∙ sym (ap (λ (c : Bool). cond c (Some x) (find p xs)) was)
  find_put (x ∷ xs) (suc at) y d lt was now = ap (λ (l : Option X). cond (p x) (Some x) l) (find_put xs at y d (omega arith) was now)

  put_first : (xs : List X) (at : ℕ) (y d : X) → at < length xs → ((k : ℕ) → k < at → p (get_or xs k d) ≡ false) → p y ≡ true → find p (set xs at y) ≡ Some y
  put_first [] at y d lt before now = absurd (omega arith)
  put_first (x ∷ xs) zero y d lt before now = ap (λ (c : Bool). cond c (Some y) (find p xs)) now
  put_first (x ∷ xs) (suc at) y d lt before now =
      let here : p x ≡ false = before 0 (omega arith) in
      ap (λ (c : Bool). cond c (Some x) (find p (set xs at y))) here ∙ put_first xs at y d (omega arith) (λ k le. before (suc k) (omega arith)) now

  -- one that passes in the place of the first that does is found there
  pub find_put_first : (xs : List X) (at : ℕ) (y d : X) → position p xs ≡ Some at → p y ≡ true → find p (set xs at y) ≡ Some y
  find_put_first xs at y d e now =
      let there = position-Some p xs at d e in
      put_first xs at y d there.0 there.2 now

  -- there is a place exactly if one is found
  pub same_found : (xs : List X) → is_some (position p xs) ≡ is_some (find p xs)
  same_found [] = refl
  same_found (x ∷ xs) = step (position p (x ∷ xs)) refl
    where
      step : (place : Option ℕ) → position p (x ∷ xs) ≡ place → is_some place ≡ is_some (find p (x ∷ xs))
      step None e = sym (ap is_some (nowhere (x ∷ xs) e).0)
      step (Some at) e = sym (ap is_some (first_there (x ∷ xs) at x e).1)
