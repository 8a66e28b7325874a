-- The ranges of an image as a function are those of its part.
use Rattle.std.proofs.Common.{◌≡◌, ◌⊎◌, ◌↔◌, ℕ, zero, suc, ◌+◌, ◌*◌, ◌%◌, ◌==◌, ap, get_or, List, true, true≢false, sym, inl, inr, ⊎_elim, subst, eq-eqb, arith}
use Rattle.std.specs.Prelude.{◌&&◌, nat_le, nat_lt, slice_get, slice_index}
use Rattle.std.proofs.lemmas.Bool.{and_from, and_parts, cases_eq, eqb-true, le-leb, leb-true, lt-ltb, ltb-true, or_cases, or_left, or_right}
use Rattle.gft_drive.specs.Words.{Covers, Has, IsOpenAs, Names, Slot, bank_at, first_layout, layout_at, number_at, range_kind, selected, slot, slot_at}
use Rattle.gft_core.specs.Held.{bank_names, covers, slot_names}
use Rattle.gft_core.specs.Laws.{HeldLaw}
use Rattle.gft_core.proofs.OptionLemmas.{if_true, if_value, if_holds}

slot_names-is : (s : Slot) (x : ℕ) → (slot_names s x ≡ true) ↔ (IsOpenAs range_kind s × Has s x)
slot_names-is s x = (
  λ e.
      let parts = and_parts ((s.gate == 1) && (s.kind == range_kind)) (nat_le s.start x && nat_lt x s.end) e in
      let kinds = and_parts (s.gate == 1) (s.kind == range_kind) parts.0 in
      let ends = and_parts (nat_le s.start x) (nat_lt x s.end) parts.1 in
      ((eqb-true s.gate 1 kinds.0, eqb-true s.kind range_kind kinds.1), (leb-true s.start x ends.0, ltb-true x s.end ends.1)),
  λ h. and_from ((s.gate == 1) && (s.kind == range_kind)) (nat_le s.start x && nat_lt x s.end)
      (and_from (s.gate == 1) (s.kind == range_kind) (eq-eqb s.gate 1 h.0.0) (eq-eqb s.kind range_kind h.0.1))
      (and_from (nat_le s.start x) (nat_lt x s.end) (le-leb s.start x h.1.0) (lt-ltb x s.end h.1.1)),
)

bank_names-is : (bank : ℕ → Slot) (n x : ℕ) → (bank_names bank n x ≡ true) ↔ Names bank n x
unfolding bank_names
bank_names-is bank zero x = (λ e. absurd (true≢false (sym e)), λ named. absurd (omega (arith, named.1)))
bank_names-is bank (suc n) x =
    let before = bank_names-is bank n x in
    let here = slot_names-is (bank n) x in (
      λ e. ⊎_elim
          (λ b. let named = before.0 b in (named.0, omega (arith, named.1), named.2, named.3))
          (λ h. let is = here.0 h in (n, omega arith, is.0, is.1))
          (or_cases (bank_names bank n x) (slot_names (bank n) x) e),
      λ named. ⊎_elim
          (λ last. or_right (bank_names bank n x) (slot_names (bank n) x) (here.1 (subst (λ (k : ℕ). IsOpenAs range_kind (bank k) × Has (bank k) x) last (named.2, named.3))))
          (λ ne. or_left (bank_names bank n x) (slot_names (bank n) x) (before.1 (named.0, omega (arith, named.1, ne), named.2, named.3)))
          (cases_eq named.0 n),
    )

-- a reader takes one slot more
pub names_next : (bank : ℕ → Slot) (n x : ℕ) (now old inside : Type 0) → (now ↔ (old ⊎ inside)) → (old ↔ Names bank n x) → (inside ↔ (IsOpenAs range_kind (bank n) × Has (bank n) x)) → now ↔ Names bank (n + 1) x
names_next bank n x now old inside more before here = (
  λ h. ⊎_elim
      (λ o. let named = before.0 o in (named.0, omega (arith, named.1), named.2, named.3))
      (λ i. let is = here.0 i in (n, omega arith, is.0, is.1))
      (more.0 h),
  λ named. more.1 (⊎_elim
      (λ last. inr (here.1 (subst (λ (k : ℕ). IsOpenAs range_kind (bank k) × Has (bank k) x) last (named.2, named.3))))
      (λ ne. inl (before.1 (named.0, omega (arith, named.1, ne), named.2, named.3)))
      (cases_eq named.0 n)),
)

pub covers-is : (xs : List ℕ) (x : ℕ) → (covers xs x ≡ true) ↔ Covers xs x
covers-is xs x = bank_names-is (slot xs (selected xs)) (layout_at xs (selected xs)).count x

pub held_law : HeldLaw
held_law image x v = (
  λ e. ((covers-is image.ranges x).0 (if_true (covers image.ranges x) (slice_get image.bytes x) v e), if_value (covers image.ranges x) (slice_get image.bytes x) v e),
  λ h. if_holds (covers image.ranges x) (slice_get image.bytes x) v ((covers-is image.ranges x).1 h.0) h.1,
)

-- a number of six bytes
pub six : (bytes : List ℕ) (at : ℕ) → number_at bytes at 6
    ≡ ((get_or bytes at 0 * 256 + get_or bytes (at + 1) 0) * 256 + get_or bytes (at + 2) 0) * 16777216 + ((get_or bytes (at + 3) 0 * 256 + get_or bytes (at + 4) 0) * 256 + get_or bytes (at + 5) 0)
unfolding number_at
six bytes at =
    let none : at + 0 ≡ at = omega arith in
    let first : get_or bytes (at + 0) 0 ≡ get_or bytes at 0 = ap (λ (k : ℕ). get_or bytes k 0) none in
    omega (arith, first)

pub slot_place : (xs : List ℕ) (selector i : ℕ) → selector ≡ slice_index xs 0 → 64 + 1048576 * (selector % 2) + 32 + 16 * i ≡ slot_at first_layout (bank_at (selected xs)) i
slot_place xs selector i is = ap (λ (n : ℕ). 64 + 1048576 * (n % 2) + 32 + 16 * i) is
