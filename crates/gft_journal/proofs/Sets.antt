-- The ranges of a set.
use Rattle.std.proofs.Common.{◌≡◌, ◌↔◌, inl, inr, ⊎_elim, ℕ, zero, suc, ◌-◌, ◌<◌, ◌≤◌, List, [], ◌∷◌, length, Some, Result, Ok, Err, OnOk, refl, sym, subst, arith}
use Rattle.std.specs.List.{slice_get}
use Rattle.gft_base.specs.declared.TheConstants.{LIMIT}
use Rattle.gft_range.specs.declared.Range.{Range}
use Rattle.gft_range.specs.Words.{HasOffset, InRange, IsNormal}
use Rattle.gft_journal.specs.Bank.{InSet, IsSet}
use Rattle.gft_journal.specs.Journal.{Becomes, BecomesOrNot, Completes, CompletesOrNot, AreJustBelow}
use Rattle.gft_drive.specs.Words.{Covers, DriveState, Reads, Leaves, IsSynced}
use Rattle.gft_drive.specs.declared.Part.TheVariants.{Ranges}
use Rattle.gft_drive.proofs.Lemmas.{leaves_as}
use Rattle.gft_drive.specs.declared.TheConstants.{MAX_RANGES}

pub iff_trans : {A B C : Type 0} → (A ↔ B) → (B ↔ C) → A ↔ C
iff_trans first second = (λ a. second.0 (first.0 a), λ c. first.1 (second.1 c))

pub iff_back : {A B : Type 0} → (A ↔ B) → B ↔ A
iff_back is = (is.1, is.0)

pub in_set : (set : List Range) (x : ℕ) → InSet set x ↔ HasOffset set x
in_set set x = (forth set, back set)
  where
    forth : (set : List Range) → InSet set x → HasOffset set x
    forth [] (i, r, is, inside) = absurd (cc is)
    forth (s ∷ set) (zero, r, is, inside) = let same : s ≡ r = cc is in inl (subst (λ (q : Range). InRange q x) (sym same) inside)
    forth (s ∷ set) (suc i, r, is, inside) = inr (forth set (i, r, is, inside))

    back : (set : List Range) → HasOffset set x → InSet set x
    back [] has = absurd has
    back (s ∷ set) (inl inside) = (0, s, refl, inside)
    back (s ∷ set) (inr has) = let there = back set has in (suc there.0, there.1, there.2, there.3)

each_range : (set : List Range) → IsNormal set → ((x : ℕ) → HasOffset set x → x < LIMIT) → (i : ℕ) (range : Range) → slice_get set i ≡ Some range → (range.start < range.end) × (range.end ≤ LIMIT)
each_range [] normal ends i range is = absurd (cc is)
each_range (s ∷ set) normal ends zero range is =
    let same : s ≡ range = cc is in
    let full : s.start < s.end = normal.0 in
    let last = ends (s.end - 1) (inl (omega (arith, full), omega (arith, full))) in
    subst (λ (q : Range). (q.start < q.end) × (q.end ≤ LIMIT)) same (full, omega (arith, last))
each_range (s ∷ set) normal ends (suc i) range is = each_range set normal.2 (λ x has. ends x (inr has)) i range is

pub is_set : (set : List Range) → IsNormal set → length set ≤ MAX_RANGES → ((x : ℕ) → HasOffset set x → x < LIMIT) → IsSet set
is_set set normal count ends = record { count = count; ranges = each_range set normal ends }

-- the set of the first len offsets
pub whole_set : (len : ℕ) → 0 < len → len ≤ LIMIT → IsSet (record { start = 0; end = len } ∷ [])
whole_set len some small = is_set (record { start = 0; end = len } ∷ []) (some, tt, tt) (omega arith) (λ x has. ⊎_elim (λ inside. omega (arith, inside.1, small)) (λ none. absurd none) has)

pub no_set : IsSet []
no_set = record { count = omega arith; ranges = λ i range is. absurd (cc is) }

pub in_whole : (len x : ℕ) → HasOffset (record { start = 0; end = len } ∷ []) x ↔ (x < len)
in_whole len x = (⊎_elim (λ inside. inside.1) (λ none. absurd none), λ lt. inl (omega arith, lt))

pub in_none : (x : ℕ) → HasOffset [] x ↔ (x < 0)
in_none x = (λ none. absurd none, λ lt. absurd (omega (arith, lt)))

-- a rebase to the ranges that are there completes them
pub completes_by : (len : ℕ) (set : List Range) (xs ys : List ℕ) → ((x : ℕ) → HasOffset set x ↔ (x < len)) → ((x : ℕ) → Covers xs x ↔ (x < len)) → Becomes set (Some len) xs ys → Completes len xs ys
completes_by len set xs ys inside whole becomes = record {
  ranges = λ x. iff_trans (becomes.ranges x) (iff_trans (inside x) (iff_back (whole x)));
  complete = λ n. iff_trans (becomes.complete n) (λ is. cc is, λ is. cc is);
  born = becomes.born;
  sound = becomes.sound;
}

pub completes_read : {T E : Type 0} (result : Result T E) (old new : DriveState) (len : ℕ) (set : List Range) → ((x : ℕ) → HasOffset set x ↔ (x < len)) → AreJustBelow len old
    → OnOk result (Reads Ranges (Becomes set (Some len)) old new) → OnOk result (Reads Ranges (Completes len) old new)
completes_read (Err e) old new len set inside whole reads = tt
completes_read (Ok x) old new len set inside whole reads = λ from told.
    let to = reads from told in
    (to.0, to.1, record { changed = completes_by len set from.ranges to.0.ranges inside (whole from told) to.2.changed; kept = to.2.kept })

pub completes_crash : (old new : DriveState) (len : ℕ) (set : List Range) → IsSynced Ranges old → ((x : ℕ) → HasOffset set x ↔ (x < len)) → AreJustBelow len old
    → Leaves Ranges (BecomesOrNot set (Some len)) old new → Leaves Ranges (CompletesOrNot len) old new
completes_crash old new len set synced inside whole leaves =
    leaves_as old new (BecomesOrNot set (Some len)) (CompletesOrNot len) synced (λ read told zs step. ⊎_elim (λ same. inl same) (λ becomes. inr (completes_by len set read.ranges zs inside (whole read told) becomes)) step) leaves
