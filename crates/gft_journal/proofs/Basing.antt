-- The other bank is written whole, and then the selector.
use Rattle.std.proofs.Common.{◌≡◌, ◌≢◌, ◌⊎◌, ◌↔◌, inl, inr, ⊎_elim, ℕ, zero, suc, ◌+◌, ◌*◌, ◌-◌, ◌%◌, ◌<◌, ◌≤◌, List, [], ◌∷◌, length, get_or, Option, Some, None, refl, sym, ◌∙◌, ap, subst, arith}
use Rattle.std.specs.List.{slice_get}
use Rattle.std.specs.Option.{MatchOption}
use Rattle.std.proofs.lemmas.Bool.{cases_eq}
use Rattle.std.proofs.lemmas.Option.{slice_get_within}
use Rattle.gft_drive.specs.Words.{Slot, first_layout, bank_size, bank_at, slot_at, IsPadded}
use Rattle.gft_drive.specs.Words.{IsBorn, selected, slot, IsOpenAs, Has, Names, LastEndsAt, Covers, IsComplete, IsIntact, IsFit, range_kind, complete_kind}
use Rattle.gft_drive.specs.Words.{Written, Torn, DiffersIn}
use Rattle.gft_drive.proofs.Lemmas.{slot_same, torn_differs, written_differs}
use Rattle.gft_drive.proofs.Lemmas.{SameBelow, names_all, ends_all}
use Rattle.gft_range.specs.Words.{HasOffset}
use Rattle.gft_journal.proofs.Sets.{iff_trans, in_set}
use Rattle.gft_journal.proofs.Adding.{first_fits}
use Rattle.gft_journal.proofs.Units.{nth_range, nth_end, nth_past, unit_moved}
use Rattle.gft_journal.specs.Bank.{IsSet, range_slot, end_slot, slots_of, IsNth, IsUnit, WritesBank, InSet}
use Rattle.gft_journal.specs.Slot.{bank_number}
use Rattle.gft_journal.specs.declared.slot.Bank.{Bank}
use Rattle.gft_journal.specs.declared.journal.Journal.{Journal}
use Rattle.gft_journal.specs.Journal.{Matches, SameJournal, Becomes, BecomesOrNot, BearsOrNot}
use Rattle.gft_range.specs.declared.Range.{Range}

abbrev end_at : ℕ → Slot
end_at len = record { gate = 1; kind = complete_kind; start = 0; end = len }

-- an open slot of the list is a range's or the end's
nth_cases : (set : List Range) (complete : Option ℕ) (i : ℕ) (s : Slot) → slice_get (slots_of set complete) i ≡ Some s
    → ((range : Range) × (slice_get set i ≡ Some range) × (s ≡ range_slot range)) ⊎ ((len : ℕ) × (complete ≡ Some len) × (i ≡ length set) × (s ≡ end_at len))
nth_cases [] None i s is = absurd (cc is)
nth_cases [] (Some len) zero s is = let same : s ≡ end_at len = cc is in inr (len, refl, refl, same)
nth_cases [] (Some len) (suc i) s is = absurd (cc is)
nth_cases (r ∷ set) complete zero s is = let same : s ≡ range_slot r = cc is in inl (r, refl, same)
nth_cases (r ∷ set) complete (suc i) s is = ⊎_elim (λ range. inl range) (λ end. inr (end.0, end.1, omega (arith, end.2), end.3)) (nth_cases set complete i s is)

-- what the units of a bank say of its slots
module _ (set : List Range) (complete : Option ℕ) (g : ℕ → Slot) (nth : (i : ℕ) → i < 65534 → MatchOption (slice_get (slots_of set complete) i) ((g i).gate ≡ 0) (λ s. g i ≡ s)) (is_set : IsSet set) where
  -- an open slot is of the list
  listed : (i : ℕ) → i < 65534 → (g i).gate ≡ 1 → slice_get (slots_of set complete) i ≡ Some (g i)
  listed i lt gate = by (slice_get (slots_of set complete) i) refl (nth i lt)
    where
      by : (o : Option Slot) → slice_get (slots_of set complete) i ≡ o → MatchOption o ((g i).gate ≡ 0) (λ s. g i ≡ s) → slice_get (slots_of set complete) i ≡ Some (g i)
      by None is shut = absurd (omega (arith, shut, gate))
      by (Some s) is same = is ∙ ap (λ (t : Slot). Some t) (sym same)

  at_range : (i : ℕ) (range : Range) → slice_get set i ≡ Some range → (i < 65534) × (g i ≡ range_slot range)
  at_range i range is =
      let below : i < length set = slice_get_within set i range is in
      let lt : i < 65534 = omega (arith, below, is_set.count) in
      let here : slice_get (slots_of set complete) i ≡ Some (range_slot range) = nth_range set (end_slot complete) i range below ∙ ap (λ (r : Range). Some (range_slot r)) (Rattle.std.proofs.lemmas.Option.get_or_from_slice_get set i range range is) in
      let P : Option Slot → Type 0 = λ o. MatchOption o ((g i).gate ≡ 0) (λ s. g i ≡ s) in
      (lt, subst P here (nth i lt))

  kind_not : (range : Range) (s : Slot) → s ≡ range_slot range → s.kind ≡ complete_kind → ⊥
  kind_not range s is two = let one : s.kind ≡ range_kind = ap (λ (t : Slot). t.kind) is in omega (arith, one, two)

  end_not : (len : ℕ) (s : Slot) → s ≡ end_at len → s.kind ≡ range_kind → ⊥
  end_not len s is one = let two : s.kind ≡ complete_kind = ap (λ (t : Slot). t.kind) is in omega (arith, one, two)

  pub names_set : (x : ℕ) → Names g 65534 x ↔ InSet set x
  names_set x = (forth, λ inside. let at = at_range inside.0 inside.1 inside.2 in let P : Slot → Type 0 = λ s. IsOpenAs range_kind s × Has s x in let there = subst P (sym at.1) ((refl, refl), inside.3) in (inside.0, at.0, there.0, there.1))
    where
      forth : Names g 65534 x → InSet set x
      forth named = ⊎_elim
          (λ r. (named.0, r.0, r.1, subst (λ (s : Slot). Has s x) r.2 named.3))
          (λ e. absurd (end_not e.0 (g named.0) e.3 named.2.1))
          (nth_cases set complete named.0 (g named.0) (listed named.0 named.1 named.2.0))

  pub ends_set : (len : ℕ) → LastEndsAt complete_kind g 65534 len ↔ (complete ≡ Some len)
  ends_set len = (forth, back)
    where
      forth : LastEndsAt complete_kind g 65534 len → complete ≡ Some len
      forth ends = ⊎_elim
          (λ r. absurd (kind_not r.0 (g ends.0) r.2 ends.2.1))
          (λ e. let same : e.0 ≡ len = sym (ap (λ (s : Slot). s.end) e.3) ∙ ends.3 in e.1 ∙ ap (λ (n : ℕ). Some n) same)
          (nth_cases set complete ends.0 (g ends.0) (listed ends.0 ends.1 ends.2.0))

      back : complete ≡ Some len → LastEndsAt complete_kind g 65534 len
      back is =
          let here : slice_get (slots_of set complete) (length set) ≡ Some (end_at len) = subst (λ (o : Option ℕ). slice_get (slots_of set o) (length set) ≡ Some (end_at len)) (sym is) (nth_end set (end_at len) (length set) refl) in
          let lt : length set < 65534 = omega (arith, is_set.count) in
          let P : Option Slot → Type 0 = λ o. MatchOption o ((g (length set)).gate ≡ 0) (λ s. g (length set) ≡ s) in
          let at : g (length set) ≡ end_at len = subst P here (nth (length set) lt) in (
            length set,
            lt,
            (ap (λ (s : Slot). s.gate) at, ap (λ (s : Slot). s.kind) at),
            ap (λ (s : Slot). s.end) at,
            λ j after below open_slot. ⊎_elim
                (λ r. absurd (omega (arith, after, slice_get_within set j r.0 r.1)))
                (λ e. omega (arith, after, e.2))
                (nth_cases set complete j (g j) (listed j below open_slot.0)),
          )

  pub fit_set : (i : ℕ) → i < 65534 → (g i).gate ≡ 1 → IsFit (g i)
  fit_set i lt gate = ⊎_elim
      (λ r. subst IsFit (sym r.2) (record { kind = inl refl; range = λ k. (is_set.ranges i r.0 r.1).0; complete = λ k. absurd (omega (arith, k)) }))
      (λ e. subst IsFit (sym e.3) (record { kind = inr refl; range = λ k. absurd (omega (arith, k)); complete = λ k. refl }))
      (nth_cases set complete i (g i) (listed i lt gate))

  pub shut_behind : (i : ℕ) → length set + length (end_slot complete) ≤ i → i < 65534 → (g i).gate ≢ 1
  shut_behind i le lt gate = absurd (cc (listed i lt gate, nth_past set (end_slot complete) i le))

-- where the selector and the selected bank stay, so do the ranges and the complete length
pub bank_same : (xs ys : List ℕ) → selected ys ≡ selected xs → (IsBorn xs → IsBorn ys) → length ys ≡ length xs
    → ((k : ℕ) → bank_at (selected xs) ≤ k → k < bank_at (selected xs) + bank_size → get_or ys k 0 ≡ get_or xs k 0) → BearsOrNot xs ys
bank_same xs ys selector born size bytes = record {
  born = born;
  ranges = λ x. part_has (λ b. Names (slot ys b) 65534 x ↔ Covers xs x) (names_all 65534 x (slot xs (selected xs)) (slot ys (selected xs)) slots_same);
  complete = λ len. part_has (λ b. LastEndsAt complete_kind (slot ys b) 65534 len ↔ IsComplete xs len) (ends_all complete_kind 65534 len (slot xs (selected xs)) (slot ys (selected xs)) slots_same);
  sound = λ was. record {
    size = size ∙ was.size;
    version = part_has (λ b. get_or ys (bank_at b) 0 ≤ 1) (omega (arith, bytes (bank_at (selected xs)) (omega arith) (omega arith), was.version));
    slots = part_has (λ b. (i : ℕ) → i < 65534 → (slot ys b i).gate ≡ 1 → IsFit (slot ys b i) × IsPadded first_layout ys (slot_at first_layout (bank_at b) i)) (each was);
  };
}
  where
    slot_bytes : (i k : ℕ) → i < 65534 → k < 16 → get_or ys (slot_at first_layout (bank_at (selected xs)) i + k) 0 ≡ get_or xs (slot_at first_layout (bank_at (selected xs)) i + k) 0
    slot_bytes i k lt small = bytes (slot_at first_layout (bank_at (selected xs)) i + k) (omega arith) (omega (arith, lt, small))

    slots_same : SameBelow 65534 (slot xs (selected xs)) (slot ys (selected xs))
    slots_same i lt = slot_same first_layout xs ys (slot_at first_layout (bank_at (selected xs)) i) first_fits (λ k small. slot_bytes i k lt small)

    part_has : (P : ℕ → Type 0) → P (selected xs) → P (selected ys)
    part_has P is = subst P (sym selector) is

    each : IsIntact xs → (i : ℕ) → i < 65534 → (slot ys (selected xs) i).gate ≡ 1 → IsFit (slot ys (selected xs) i) × IsPadded first_layout ys (slot_at first_layout (bank_at (selected xs)) i)
    each was i lt gate =
        let same = slots_same i lt in
        let old = was.slots i lt (sym (ap (λ (s : Slot). s.gate) same) ∙ gate) in
        (subst IsFit (sym same) old.0, λ k pad. slot_bytes i k lt pad.1 ∙ old.1 k pad)

-- and with the byte of the birth the whole journal
bank_kept : (xs ys : List ℕ) → selected ys ≡ selected xs → get_or ys 1 0 ≡ get_or xs 1 0 → length ys ≡ length xs
    → ((k : ℕ) → bank_at (selected xs) ≤ k → k < bank_at (selected xs) + bank_size → get_or ys k 0 ≡ get_or xs k 0) → SameJournal xs ys
bank_kept xs ys selector born size bytes =
    let same = bank_same xs ys selector (λ is. born ∙ is) size bytes in
    record { ranges = same.ranges; rest = record { complete = same.complete; born = (λ is. sym born ∙ is, λ is. born ∙ is); sound = same.sound } }

module _ (xs : List ℕ) (o : ℕ) (other : o ≡ 1 - selected xs) where
  two : selected xs < 2
  two = omega arith

  -- whatever stands in the other bank
  pub other_free : (ys : List ℕ) → DiffersIn (bank_at o) bank_size xs ys → SameJournal xs ys
  other_free ys differs = bank_kept xs ys (ap (λ (k : ℕ). k % 2) (differs.before 0 (omega arith))) (differs.before 1 (omega arith)) differs.size
      (λ k low high. ⊎_elim (λ first. differs.before k (omega (arith, other, first, high))) (λ second. differs.after k (omega (arith, other, second, low))) (cases_eq_01 (selected xs) two))
    where
      cases_eq_01 : (b : ℕ) → b < 2 → (b ≡ 0) ⊎ (b ≡ 1)
      cases_eq_01 b lt = ⊎_elim (λ is. inl is) (λ ne. inr (omega (arith, lt, ne))) (cases_eq b 0)

  module _ (set : List Range) (complete : Option ℕ) (is_set : IsSet set) (ys zs : List ℕ) (writes : WritesBank (bank_at o) (slots_of set complete) xs ys) (differs : DiffersIn 0 1 ys zs) where
    nth_at : (i : ℕ) → i < 65534 → IsNth (slots_of set complete) i zs (slot_at first_layout (bank_at o) i)
    nth_at i lt =
        let unit = writes.units (i + 2) (omega (arith, lt)) in
        let index : 0 + (i + 2) ≡ i + 2 = omega arith in
        let at : bank_at o + 16 * (i + 2) ≡ slot_at first_layout (bank_at o) i = omega arith in
        let here = subst (λ (p : ℕ). IsUnit (slots_of set complete) (0 + (i + 2)) ys p) at unit in
        (unit_moved (slots_of set complete) (0 + (i + 2)) ys zs (slot_at first_layout (bank_at o) i) (slot_at first_layout (bank_at o) i) (λ k small. differs.after (slot_at first_layout (bank_at o) i + k) (omega arith)) here).slot i index

    nth_is : (i : ℕ) → i < 65534 → MatchOption (slice_get (slots_of set complete) i) ((slot zs o i).gate ≡ 0) (λ s. slot zs o i ≡ s)
    nth_is i lt = by (slice_get (slots_of set complete) i) (nth_at i lt)
      where
        by : (n : Option Slot) → MatchOption n ((slot zs o i).gate ≡ 0) (λ s. (slot zs o i ≡ s) × IsPadded first_layout zs (slot_at first_layout (bank_at o) i)) → MatchOption n ((slot zs o i).gate ≡ 0) (λ s. slot zs o i ≡ s)
        by None shut = shut
        by (Some s) is = is.0

    padded_at : (i : ℕ) → i < 65534 → (slot zs o i).gate ≡ 1 → IsPadded first_layout zs (slot_at first_layout (bank_at o) i)
    padded_at i lt gate = by (slice_get (slots_of set complete) i) (nth_at i lt)
      where
        by : (n : Option Slot) → MatchOption n ((slot zs o i).gate ≡ 0) (λ s. (slot zs o i ≡ s) × IsPadded first_layout zs (slot_at first_layout (bank_at o) i)) → IsPadded first_layout zs (slot_at first_layout (bank_at o) i)
        by None shut = absurd (omega (arith, shut, gate))
        by (Some s) is = is.1

    version_one : get_or zs (bank_at o) 0 ≡ 1
    version_one =
        let unit = writes.units 0 (omega arith) in
        let at : bank_at o + 16 * 0 ≡ bank_at o = omega arith in
        differs.after (bank_at o) (omega arith) ∙ subst (λ (p : ℕ). get_or ys p 0 ≡ 1) at (unit.head refl)

    born_same : get_or zs 1 0 ≡ get_or xs 1 0
    born_same = differs.after 1 (omega arith) ∙ writes.differs.before 1 (omega (arith))

    -- the other bank is selected
    pub flipped : selected zs ≡ o → Becomes set complete xs zs
    flipped is = record {
      ranges = λ x. part_has (λ b. Names (slot zs b) 65534 x ↔ HasOffset set x) (iff_trans (names_set set complete (slot zs o) nth_is is_set x) (in_set set x));
      complete = λ len. part_has (λ b. LastEndsAt complete_kind (slot zs b) 65534 len ↔ (complete ≡ Some len)) (ends_set set complete (slot zs o) nth_is is_set len);
      born = (λ one. sym born_same ∙ one, λ one. born_same ∙ one);
      sound = λ was. record {
        size = differs.size ∙ writes.differs.size ∙ was.size;
        version = part_has (λ b. get_or zs (bank_at b) 0 ≤ 1) (omega (arith, version_one));
        slots = part_has (λ b. (i : ℕ) → i < 65534 → (slot zs b i).gate ≡ 1 → IsFit (slot zs b i) × IsPadded first_layout zs (slot_at first_layout (bank_at b) i))
            (λ i lt gate. (fit_set set complete (slot zs o) nth_is is_set i lt gate, padded_at i lt gate));
      };
    }
      where
        part_has : (P : ℕ → Type 0) → P o → P (selected zs)
        part_has P there = subst P (sym is) there

    -- whatever byte the selector has
    pub flips : BecomesOrNot set complete xs zs
    flips = ⊎_elim
        (λ same. inl (unflipped same))
        (λ ne. let now : selected zs < 2 = omega arith in inr (flipped (omega (arith, ne, now, two, other))))
        (cases_eq (selected zs) (selected xs))
      where
        unflipped : selected zs ≡ selected xs → SameJournal xs zs
        unflipped same =
            let was = other_free ys writes.differs in
            bank_kept xs zs same born_same (differs.size ∙ writes.differs.size) (λ k low high. differs.after k (omega (arith, low)) ∙ ⊎_elim
            (λ first. writes.differs.before k (omega (arith, other, first, high)))
            (λ second. writes.differs.after k (omega (arith, other, two, second, low)))
            (cases_eq (selected xs) 0))

    pub shut_after : (i : ℕ) → length set + length (end_slot complete) ≤ i → i < 65534 → (slot zs o i).gate ≢ 1
    shut_after i le lt = shut_behind set complete (slot zs o) nth_is is_set i le lt

-- a rebase of the journal that stands
module _ (journal : Journal) (set : List Range) (complete : Option ℕ) (xs : List ℕ) (was : Matches journal xs) (is_set : IsSet set) (o : ℕ) (is_other : o ≡ 1 - bank_number journal.bank) where
  other_is : o ≡ 1 - selected xs
  other_is = is_other ∙ ap (λ (b : ℕ). 1 - b) (sym was.bank)

  pub same_now : BecomesOrNot set complete xs xs
  same_now = inl (bank_kept xs xs refl refl refl (λ k low high. refl))

  pub wrote : (ys : List ℕ) → DiffersIn (bank_at o) bank_size xs ys → BecomesOrNot set complete xs ys
  wrote ys differs = inl (other_free xs o other_is ys differs)

  module _ (ys : List ℕ) (writes : WritesBank (bank_at o) (slots_of set complete) xs ys) where
    flip_within : 0 + 1 ≤ length ys
    flip_within = omega (arith, writes.differs.size, was.sound.size)

    pub flipping : (zs : List ℕ) → Torn 0 1 ys zs → BecomesOrNot set complete xs zs
    flipping zs torn = flips xs o other_is set complete is_set ys zs writes (torn_differs 0 1 ys zs flip_within torn)

    module _ (zs : List ℕ) (written : Written 0 (o ∷ []) ys zs) where
      differs : DiffersIn 0 1 ys zs
      differs = written_differs 0 (o ∷ []) ys zs flip_within written

      now_selected : selected zs ≡ o
      now_selected =
          let byte : get_or zs (0 + 0) 0 ≡ o = written.inside 0 (omega arith) in
          let small : o < 2 = omega (arith, other_is) in
          omega (arith, byte, small)

      pub becomes : Becomes set complete xs zs
      becomes = flipped xs o other_is set complete is_set ys zs writes differs now_selected

      pub matches_after : (bank : Bank) (next : ℕ) → o ≡ bank_number bank → next ≡ length set + length (end_slot complete) → Matches (record { bank = bank; born = journal.born; next = next }) zs
      matches_after bank next named count = record {
        sound = becomes.sound was.sound;
        bank = now_selected ∙ named;
        born = (λ b. becomes.born.1 (was.born.0 b), λ b. was.born.1 (becomes.born.0 b));
        shut = λ i above below. subst (λ (b : ℕ). (slot zs b i).gate ≢ 1) named (shut_after xs o other_is set complete is_set ys zs writes differs i (omega (arith, above, count)) below);
      }
