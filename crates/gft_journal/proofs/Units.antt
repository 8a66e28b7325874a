-- The units of a bank.
use Rattle.std.proofs.Common.{◌≡◌, ⊎_elim, ℕ, zero, suc, ◌+◌, ◌*◌, ◌-◌, ◌<◌, ◌≤◌, List, [], ◌∷◌, ◌++◌, map, length, get_or, Option, Some, None, refl, sym, ◌∙◌, ap, subst, arith}
use Rattle.std.specs.List.{slice_get}
use Rattle.std.specs.Option.{MatchOption}
use Rattle.gft_drive.specs.Words.{Slot, first_layout, slot_of, IsPadded}
use Rattle.gft_drive.specs.Words.{range_kind, complete_kind}
use Rattle.gft_journal.specs.Slot.{IsSlot}
use Rattle.std.proofs.lemmas.Bool.{cases_eq, cases_lt}
use Rattle.gft_drive.specs.Words.{Written}
use Rattle.gft_drive.proofs.Lemmas.{slot_moved}
use Rattle.gft_journal.proofs.Adding.{first_fits}
use Rattle.gft_journal.specs.Bank.{range_slot, end_slot, slots_of, IsNth, IsUnit, HasUnits}
use Rattle.gft_range.specs.declared.Range.{Range}

pub nth_range : (set : List Range) (end : List Slot) (i : ℕ) (d : Range) → i < length set → slice_get (map range_slot set ++ end) i ≡ Some (range_slot (get_or set i d))
nth_range [] end i d lt = absurd (omega arith)
nth_range (r ∷ set) end zero d lt = refl
nth_range (r ∷ set) end (suc i) d lt = nth_range set end i d (omega arith)

pub nth_end : (set : List Range) (s : Slot) (i : ℕ) → i ≡ length set → slice_get (map range_slot set ++ s ∷ []) i ≡ Some s
nth_end [] s zero is = refl
nth_end [] s (suc i) is = absurd (omega arith)
nth_end (r ∷ set) s zero is = absurd (omega arith)
nth_end (r ∷ set) s (suc i) is = nth_end set s i (omega arith)

pub nth_past : (set : List Range) (end : List Slot) (i : ℕ) → length set + length end ≤ i → slice_get (map range_slot set ++ end) i ≡ None
nth_past [] [] i le = refl
nth_past [] (s ∷ end) zero le = absurd (omega arith)
nth_past [] (s ∷ end) (suc i) le = nth_past [] end i (omega arith)
nth_past (r ∷ set) end zero le = absurd (omega arith)
nth_past (r ∷ set) end (suc i) le = nth_past set end i (omega arith)

is_nth_some : (slots : List Slot) (i : ℕ) (xs : List ℕ) (at : ℕ) (s : Slot) → slice_get slots i ≡ Some s → slot_of first_layout xs at ≡ s → IsPadded first_layout xs at → IsNth slots i xs at
is_nth_some slots i xs at s there is padded =
    let P : Option Slot → Type 0 = λ o. MatchOption o (get_or xs at 0 ≡ 0) (λ s. (slot_of first_layout xs at ≡ s) × IsPadded first_layout xs at) in
    subst P (sym there) (is, padded)

is_nth_none : (slots : List Slot) (i : ℕ) (xs : List ℕ) (at : ℕ) → slice_get slots i ≡ None → get_or xs at 0 ≡ 0 → IsNth slots i xs at
is_nth_none slots i xs at none zero_gate =
    let P : Option Slot → Type 0 = λ o. MatchOption o (get_or xs at 0 ≡ 0) (λ s. (slot_of first_layout xs at ≡ s) × IsPadded first_layout xs at) in
    subst P (sym none) zero_gate

module _ (set : List Range) (complete : Option ℕ) (index : ℕ) (slot : List ℕ) (behind : 2 ≤ index) where
  with_nth : ((i : ℕ) → index ≡ i + 2 → IsNth (slots_of set complete) i slot 0) → IsUnit (slots_of set complete) index slot 0
  with_nth nth = record { head = λ is. absurd (omega (arith, is, behind)); slot = nth }

  pub range_unit : (d : Range) → index - 2 < length set → IsSlot range_kind (get_or set (index - 2) d).start (get_or set (index - 2) d).end slot → IsUnit (slots_of set complete) index slot 0
  range_unit d lt is = with_nth (λ i at.
      let here : index - 2 ≡ i = omega (arith, at) in
      is_nth_some (slots_of set complete) i slot 0 _ (subst (λ (k : ℕ). slice_get (slots_of set complete) k ≡ Some (range_slot (get_or set (index - 2) d))) here (nth_range set (end_slot complete) (index - 2) d lt)) is.is is.padded)

  pub end_unit : (len : ℕ) → complete ≡ Some len → index - 2 ≡ length set → IsSlot complete_kind 0 len slot → IsUnit (slots_of set complete) index slot 0
  end_unit len known last is = with_nth (λ i at.
      let here : i ≡ length set = omega (arith, at, last) in
      is_nth_some (slots_of set complete) i slot 0 _ (subst (λ (o : Option ℕ). slice_get (slots_of set o) i ≡ Some (record { gate = 1; kind = complete_kind; start = 0; end = len })) (sym known) (nth_end set _ i here)) is.is is.padded)

  pub shut_unit : length set + length (end_slot complete) ≤ index - 2 → get_or slot 0 0 ≡ 0 → IsUnit (slots_of set complete) index slot 0
  shut_unit past zero_gate = with_nth (λ i at. is_nth_none (slots_of set complete) i slot 0 (nth_past set (end_slot complete) i (omega (arith, past, at))) zero_gate)

-- a unit is its bytes, wherever they stand
pub unit_moved : (slots : List Slot) (index : ℕ) (xs ys : List ℕ) (at to : ℕ) → ((k : ℕ) → k < 16 → get_or ys (to + k) 0 ≡ get_or xs (at + k) 0) → IsUnit slots index xs at → IsUnit slots index ys to
unit_moved slots index xs ys at to same unit = record {
  head = λ is. gate ∙ unit.head is;
  slot = λ i is. nth (slice_get slots i) (unit.slot i is);
}
  where
    gate : get_or ys to 0 ≡ get_or xs at 0
    gate = let a : to + 0 ≡ to = omega arith in let b : at + 0 ≡ at = omega arith in ap (λ (k : ℕ). get_or ys k 0) (sym a) ∙ same 0 (omega arith) ∙ ap (λ (k : ℕ). get_or xs k 0) b

    nth : (o : Option Slot) → MatchOption o (get_or xs at 0 ≡ 0) (λ s. (slot_of first_layout xs at ≡ s) × IsPadded first_layout xs at) → MatchOption o (get_or ys to 0 ≡ 0) (λ s. (slot_of first_layout ys to ≡ s) × IsPadded first_layout ys to)
    nth None zero_gate = gate ∙ zero_gate
    nth (Some s) there = (slot_moved first_layout xs ys at to first_fits same ∙ there.0, λ k pad. same k pad.1 ∙ there.1 k pad)

-- one more unit is written
pub units_more : (slots : List Slot) (first n at : ℕ) (unit old new : List ℕ) → length unit ≡ 16 → IsUnit slots (first + n) unit 0 → Written (at + 16 * n) unit old new → HasUnits slots first n old at → HasUnits slots first (n + 1) new at
units_more slots first n at unit old new size is written units i lt = ⊎_elim
    (λ last. subst (λ (k : ℕ). IsUnit slots (first + k) new (at + 16 * k)) (sym last) (unit_moved slots (first + n) unit new 0 (at + 16 * n) (λ k below. written.inside k (omega (arith, below, size)) ∙ ap (λ (j : ℕ). get_or unit j 0) (zero_add k)) is))
    (λ ne. unit_moved slots (first + i) old new (at + 16 * i) (at + 16 * i) (λ k below. written.before (at + 16 * i + k) (omega (arith, below, lt, ne))) (units i (omega (arith, lt, ne))))
    (cases_eq i n)
  where
    zero_add : (k : ℕ) → k ≡ 0 + k
    zero_add k = omega arith

-- a whole piece is written behind those before it
pub pieces_more : (slots : List Slot) (first at : ℕ) (piece old new : List ℕ) → length piece ≡ 4096 → HasUnits slots first 256 piece 0 → Written (at + 16 * first) piece old new → HasUnits slots 0 first old at → HasUnits slots 0 (first + 256) new at
pieces_more slots first at piece old new size is written units i lt = ⊎_elim
    (λ below. unit_moved slots (0 + i) old new (at + 16 * i) (at + 16 * i) (λ k small. written.before (at + 16 * i + k) (omega (arith, below, small))) (units i below))
    (λ above.
    let index : first + (i - first) ≡ 0 + i = omega (arith, above) in
    let from = is (i - first) (omega (arith, lt, above)) in
    subst (λ (u : ℕ). IsUnit slots u new (at + 16 * i)) index (unit_moved slots (first + (i - first)) piece new (0 + 16 * (i - first)) (at + 16 * i) (λ k small.
    let place : at + 16 * i + k ≡ at + 16 * first + (0 + 16 * (i - first) + k) = omega (arith, above) in
    ap (λ (j : ℕ). get_or new j 0) place ∙ written.inside (0 + 16 * (i - first) + k) (omega (arith, lt, above, small, size))) from))
    (cases_lt i first)
