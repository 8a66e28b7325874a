-- The numbers of the lanes, where those of one lane change.
use Rattle.std.proofs.Common.{◌≡◌, ◌≢◌, ◌⊎◌, ℕ, zero, suc, ◌+◌, ◌<◌, ◌≤◌, List, [], ◌∷◌, ◌++◌, length, set, replicate, Some, None, refl, sym, ap, ◌∙◌, ⊎_elim, inl, inr, arith}
use Rattle.std.specs.Prelude.{Option, sum_by}
use Rattle.std.proofs.lemmas.Option.{none-some}
use Rattle.std.proofs.lemmas.List.Sums.{sum_by-cons}
use mathlib.Core.Option.{some-ne-none, some-injective}
use Rattle.atomic_table.proofs.Lists.{at_set, set_here, set_else}
use Rattle.gft_pass.specs.declared.cause.Cause.{Cause}
use Rattle.gft_pass.specs.declared.numbers.Numbers.{Numbers}
use Rattle.gft_pass.specs.Ledger.{IsAt, nothing}
use Rattle.gft_pass.specs.Causes.{one, causes}

-- ---- the numbers of a lane

-- the lane is one of the list
pub IsAt-below : (l : List Numbers) (k : ℕ) (n : Numbers) → IsAt l k n → k < length l
IsAt-below [] k n at = absurd (some-ne-none n (sym at))
IsAt-below (x ∷ xs) zero n at = omega arith
IsAt-below (x ∷ xs) (suc k) n at = let h = IsAt-below xs k n at in omega arith

pub IsAt-some : (l : List Numbers) (k : ℕ) → k < length l → (n : Numbers) × IsAt l k n
IsAt-some [] k h = absurd (omega arith)
IsAt-some (x ∷ xs) zero h = (x, refl)
IsAt-some (x ∷ xs) (suc k) h = IsAt-some xs k (omega arith)

pub IsAt-same : (l : List Numbers) (k : ℕ) (n m : Numbers) → IsAt l k n → IsAt l k m → n ≡ m
IsAt-same l k n m at there = some-injective n m (sym at ∙ there)

pub IsAt-nothing : (lanes k : ℕ) (n : Numbers) → IsAt (replicate lanes nothing) k n → n ≡ nothing
IsAt-nothing zero k n at = absurd (some-ne-none n (sym at))
IsAt-nothing (suc lanes) zero n at = sym (some-injective nothing n at)
IsAt-nothing (suc lanes) (suc k) n at = IsAt-nothing lanes k n at

-- ---- where they change

pub length-set : (l : List Numbers) (k : ℕ) (m : Numbers) → length (set l k m) ≡ length l
length-set [] k m = refl
length-set (x ∷ xs) zero m = refl
length-set (x ∷ xs) (suc k) m = let rest = length-set xs k m in omega (arith, rest)

-- the lane has the new ones
pub IsAt-set : (l : List Numbers) (k : ℕ) (n m : Numbers) → IsAt l k n → IsAt (set l k m) k m
IsAt-set l k n m at = set_here l k m (IsAt-below l k n at)

-- another lane has its own
pub IsAt-other : (l : List Numbers) (k j : ℕ) (m p : Numbers) → j ≢ k → IsAt l j p → IsAt (set l k m) j p
IsAt-other l k j m p other at = set_else l k j m other ∙ at

-- it is the lane with the new ones, or another one with its own
pub IsAt-set_or : (l : List Numbers) (k j : ℕ) (m p : Numbers) → IsAt (set l k m) j p → ((j ≡ k) × (m ≡ p)) ⊎ ((j ≢ k) × IsAt l j p)
IsAt-set_or l k j m p at = at_set l k j m p at

-- ---- sums

pub sum_by-set : (f : Numbers → ℕ) (l : List Numbers) (k : ℕ) (n m : Numbers) → IsAt l k n → sum_by f (set l k m) + f n ≡ sum_by f l + f m
sum_by-set f [] k n m at = absurd (some-ne-none n (sym at))
sum_by-set f (x ∷ xs) zero n m at =
    let same : f x ≡ f n = ap f (some-injective x n at) in
    omega (arith, same, sum_by-cons f m xs, sum_by-cons f x xs)
sum_by-set f (x ∷ xs) (suc k) n m at =
    let rest = sum_by-set f xs k n m at in
    omega (arith, rest, sum_by-cons f x (set xs k m), sum_by-cons f x xs)

-- what is of one lane is at most the sum
pub sum_by-at : (f : Numbers → ℕ) (l : List Numbers) (k : ℕ) (n : Numbers) → IsAt l k n → f n ≤ sum_by f l
sum_by-at f [] k n at = absurd (some-ne-none n (sym at))
sum_by-at f (x ∷ xs) zero n at =
    let same : f x ≡ f n = ap f (some-injective x n at) in omega (arith, same, sum_by-cons f x xs)
sum_by-at f (x ∷ xs) (suc k) n at =
    let rest = sum_by-at f xs k n at in omega (arith, rest, sum_by-cons f x xs)

pub sum_by-nothing : (f : Numbers → ℕ) (lanes : ℕ) → f nothing ≡ 0 → sum_by f (replicate lanes nothing) ≡ 0
sum_by-nothing f zero none = refl
sum_by-nothing f (suc lanes) none =
    let rest = sum_by-nothing f lanes none in
    omega (arith, none, rest, sum_by-cons f nothing (replicate lanes nothing))

-- ---- causes

pub causes-nothing : (lanes : ℕ) → causes (replicate lanes nothing) ≡ []
causes-nothing zero = refl
causes-nothing (suc lanes) = causes-nothing lanes

not_empty : (c : Cause) (l : List Cause) → c ∷ l ≡ [] → ⊥
not_empty c l e = let h : length (c ∷ l) ≡ 0 = ap (λ (k : List Cause). length k) e in absurd (omega (arith, h))

both_empty : (o : Option Cause) (l : List Cause) → one o ++ l ≡ [] → (one o ≡ []) × (l ≡ [])
both_empty (Some c) l e = absurd (not_empty c l e)
both_empty None l e = (refl, e)

empty_none : (o : Option Cause) → one o ≡ [] → o ≡ None
empty_none (Some c) e = absurd (not_empty c [] e)
empty_none None e = refl

-- the first cause stands in the numbers with which it was kept, and in no others
pub causes-first : (l : List Numbers) (k : ℕ) (n m : Numbers) (c : Cause) → causes l ≡ [] → IsAt l k n → m.cause ≡ Some c → causes (set l k m) ≡ c ∷ []
causes-first [] k n m c none at is = absurd (some-ne-none n (sym at))
causes-first (x ∷ xs) zero n m c none at is =
    ap (λ o. one o ++ causes xs) is ∙ ap (λ l. c ∷ l) (both_empty x.cause (causes xs) none).1
causes-first (x ∷ xs) (suc k) n m c none at is =
    let b = both_empty x.cause (causes xs) none in
    ap (λ l. l ++ causes (set xs k m)) b.0 ∙ causes-first xs k n m c b.1 at is

-- the cause of a lane stays
pub causes-set : (l : List Numbers) (k : ℕ) (n m : Numbers) → IsAt l k n → m.cause ≡ n.cause → causes (set l k m) ≡ causes l
causes-set [] k n m at same = refl
causes-set (x ∷ xs) zero n m at same =
    ap (λ o. one o ++ causes xs) (same ∙ ap (λ (y : Numbers). y.cause) (sym (some-injective x n at)))
causes-set (x ∷ xs) (suc k) n m at same = ap (λ l. one x.cause ++ l) (causes-set xs k n m at same)

-- where there are no causes, no lane has one
pub causes-none : (l : List Numbers) (k : ℕ) (n : Numbers) → causes l ≡ [] → IsAt l k n → n.cause ≡ None
causes-none [] k n none at = absurd (some-ne-none n (sym at))
causes-none (x ∷ xs) zero n none at =
    ap (λ (y : Numbers). y.cause) (sym (some-injective x n at)) ∙ empty_none x.cause (both_empty x.cause (causes xs) none).0
causes-none (x ∷ xs) (suc k) n none at = causes-none xs k n (both_empty x.cause (causes xs) none).1 at

one_of : (o : Option Cause) (l : List Cause) (d : Cause) → one o ++ l ≡ d ∷ [] → ((o ≡ Some d) × (l ≡ [])) ⊎ ((o ≡ None) × (l ≡ d ∷ []))
one_of None l d e = inr (refl, e)
one_of (Some c) l d e =
    let h : length (c ∷ l) ≡ 1 = ap (λ (k : List Cause). length k) e in
    inl (ap (λ (k : List Cause). Some (first k)) e, no_more l (omega (arith, h)))
  where
    first : List Cause → Cause
    first [] = d
    first (b ∷ bs) = b

    no_more : (k : List Cause) → length k ≡ 0 → k ≡ []
    no_more [] h = refl
    no_more (b ∷ bs) h = absurd (omega arith)

-- where at most one cause stands, a lane's is that one
pub causes-one : (l : List Numbers) (kept : Option Cause) (k : ℕ) (n : Numbers) (c : Cause) → causes l ≡ one kept → IsAt l k n → n.cause ≡ Some c → kept ≡ Some c
causes-one l None k n c is at has = absurd (none-some c (sym (causes-none l k n is at) ∙ has))
causes-one [] (Some d) k n c is at has = absurd (some-ne-none n (sym at))
causes-one (x ∷ xs) (Some d) zero n c is at has =
    let mine : x.cause ≡ Some c = ap (λ (y : Numbers). y.cause) (some-injective x n at) ∙ has in
    ⊎_elim
    (λ (h : (x.cause ≡ Some d) × (causes xs ≡ [])). sym h.0 ∙ mine)
    (λ (h : (x.cause ≡ None) × (causes xs ≡ d ∷ [])). absurd (none-some c (sym h.0 ∙ mine)))
    (one_of x.cause (causes xs) d is)
causes-one (x ∷ xs) (Some d) (suc k) n c is at has =
    ⊎_elim
    (λ (h : (x.cause ≡ Some d) × (causes xs ≡ [])). absurd (none-some c (sym (causes-none xs k n h.1 at) ∙ has)))
    (λ (h : (x.cause ≡ None) × (causes xs ≡ d ∷ [])). causes-one xs (Some d) k n c h.1 at has)
    (one_of x.cause (causes xs) d is)

-- ---- EODs

-- the EODs of a lane; none past the last
abbrev pub eods_at : List Numbers → ℕ → ℕ
eods_at [] k = 0
eods_at (n ∷ ns) zero = n.eods
eods_at (n ∷ ns) (suc k) = eods_at ns k

pub eods_at-here : (l : List Numbers) (k : ℕ) (n : Numbers) → IsAt l k n → eods_at l k ≡ n.eods
eods_at-here [] k n at = absurd (some-ne-none n (sym at))
eods_at-here (x ∷ xs) zero n at = ap (λ (m : Numbers). m.eods) (some-injective x n at)
eods_at-here (x ∷ xs) (suc k) n at = eods_at-here xs k n at

pub eods_at-or : (l : List Numbers) (k : ℕ) → ((n : Numbers) × IsAt l k n) ⊎ (eods_at l k ≡ 0)
eods_at-or [] k = inr refl
eods_at-or (x ∷ xs) zero = inl (x, refl)
eods_at-or (x ∷ xs) (suc k) = eods_at-or xs k
