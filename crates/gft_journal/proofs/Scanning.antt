-- A slot more of a bank is read.
use Rattle.std.proofs.Common.{◌≡◌, ◌≢◌, ◌⊎◌, ◌↔◌, inl, inr, ⊎_elim, ℕ, ◌+◌, ◌*◌, ◌-◌, ◌<◌, ◌≤◌, List, length, get_or, take, drop, Option, Some, sym, ◌∙◌, ap, subst, arith}
use Rattle.std.proofs.lemmas.Bool.{cases_eq}
use Rattle.std.proofs.lemmas.List.{get_or-take, get_or-drop}
use Rattle.gft_drive.specs.Words.{Slot, first_layout, number_at, slot_of, slot_at, IsPad, IsPadded, IsOpenAs, Has, IsFit, Names, LastEndsAt, range_kind, complete_kind}
use Rattle.gft_drive.proofs.Lemmas.{slot_moved}
use Rattle.gft_range.specs.Words.{HasOffset}
use Rattle.gft_range.specs.declared.Range.{Range}
use Rattle.gft_journal.proofs.Adding.{first_fits}
use Rattle.gft_journal.proofs.Sets.{iff_trans, iff_back}
use Rattle.gft_journal.specs.declared.scan.Scan.{Scan}
use Rattle.gft_journal.specs.Scan.{Takes, IsScan, GoesOver, InSlot, IsBad, MeetsBad}

pub six : (bytes : List ℕ) (at : ℕ) → number_at bytes at 6 ≡ ((get_or bytes at 0 * 256 + get_or bytes (at + 1) 0) * 256 + get_or bytes (at + 2) 0) * 16777216 + ((get_or bytes (at + 3) 0 * 256 + get_or bytes (at + 4) 0) * 256 + get_or bytes (at + 5) 0)
unfolding number_at
six bytes at =
    let none : at + 0 ≡ at = omega arith in
    let first : get_or bytes (at + 0) 0 ≡ get_or bytes at 0 = ap (λ (k : ℕ). get_or bytes k 0) none in
    omega (arith, first)

-- one slot more
module _ (g : ℕ → Slot) (n : ℕ) where
  names_before : (x : ℕ) → (IsOpenAs range_kind (g n) → ⊥) → Names g (n + 1) x ↔ Names g n x
  names_before x shut = (λ named. ⊎_elim (λ last. absurd (shut (subst (λ (k : ℕ). IsOpenAs range_kind (g k)) last named.2))) (λ ne. (named.0, omega (arith, named.1, ne), named.2, named.3)) (cases_eq named.0 n), λ named. (named.0, omega (arith, named.1), named.2, named.3))

  names_here : (x : ℕ) → IsOpenAs range_kind (g n) → Names g (n + 1) x ↔ Names g n x ⊎ Has (g n) x
  names_here x is = (
    λ named. ⊎_elim (λ last. inr (subst (λ (k : ℕ). Has (g k) x) last named.3)) (λ ne. inl (named.0, omega (arith, named.1, ne), named.2, named.3)) (cases_eq named.0 n),
    ⊎_elim (λ named. (named.0, omega (arith, named.1), named.2, named.3)) (λ has. (n, omega arith, is, has)),
  )

  ends_before : (kind len : ℕ) → (IsOpenAs kind (g n) → ⊥) → LastEndsAt kind g (n + 1) len ↔ LastEndsAt kind g n len
  ends_before kind len shut = (
    λ ends. ⊎_elim (λ last. absurd (shut (subst (λ (k : ℕ). IsOpenAs kind (g k)) last ends.2))) (λ ne. (ends.0, omega (arith, ends.1, ne), ends.2, ends.3, λ j after lt. ends.4 j after (omega (arith, lt)))) (cases_eq ends.0 n),
    λ ends. (ends.0, omega (arith, ends.1), ends.2, ends.3, λ j after lt is. ⊎_elim (λ last. shut (subst (λ (k : ℕ). IsOpenAs kind (g k)) last is)) (λ ne. ends.4 j after (omega (arith, lt, ne)) is) (cases_eq j n)),
  )

  ends_here : (kind len : ℕ) → IsOpenAs kind (g n) → LastEndsAt kind g (n + 1) len ↔ ((g n).end ≡ len)
  ends_here kind len is = (
    λ ends. ⊎_elim (λ last. subst (λ (k : ℕ). (g k).end ≡ len) last ends.3) (λ ne. absurd (ends.4 n (omega (arith, ends.1, ne)) (omega arith) is)) (cases_eq ends.0 n),
    λ end. (n, omega arith, is, end, λ j after lt. absurd (omega (arith, after, lt))),
  )

pad_eight : IsPad first_layout 8
pad_eight = (omega arith, omega arith, inr (omega arith), inl (omega arith))

pad_nine : IsPad first_layout 9
pad_nine = (omega arith, omega arith, inr (omega arith), inl (omega arith))

pub unpadded_eight : (slot : List ℕ) → get_or slot 8 0 ≢ 0 → IsPadded first_layout slot 0 → ⊥
unpadded_eight slot ne padded = ne (padded 8 pad_eight)

pub unpadded_nine : (slot : List ℕ) → get_or slot 9 0 ≢ 0 → IsPadded first_layout slot 0 → ⊥
unpadded_nine slot ne padded = ne (padded 9 pad_nine)

abbrev slots : List ℕ → ℕ → ℕ → Slot
slots xs at i = slot_of first_layout xs (slot_at first_layout at i)

-- a scan takes one slot more
module _ (xs : List ℕ) (at n : ℕ) (slot : List ℕ) (old new : Scan) (same : (k : ℕ) → k < 16 → get_or xs (slot_at first_layout at n + k) 0 ≡ get_or slot k 0) (was : IsScan xs at n old) (takes : Takes n slot old new) where
  this : slot_of first_layout xs (slot_at first_layout at n) ≡ slot_of first_layout slot 0
  this = slot_moved first_layout slot xs 0 (slot_at first_layout at n) first_fits (λ k lt. same k lt ∙ ap (λ (j : ℕ). get_or slot j 0) (zero_add k))
    where
      zero_add : (k : ℕ) → k ≡ 0 + k
      zero_add k = omega arith

  fit_now : (i : ℕ) → i < n + 1 → (slots xs at i).gate ≡ 1 → IsFit (slots xs at i) × IsPadded first_layout xs (slot_at first_layout at i)
  fit_now i lt gate = ⊎_elim
      (λ last.
      let P : ℕ → Type 0 = λ k. IsFit (slots xs at k) × IsPadded first_layout xs (slot_at first_layout at k) in
      let here : (slots xs at n).gate ≡ 1 = subst (λ (k : ℕ). (slots xs at k).gate ≡ 1) last gate in
      let fit = takes.fit (sym (ap (λ (s : Slot). s.gate) this) ∙ here) in
      subst P (sym last) (subst IsFit (sym this) fit.0, λ k pad. same k pad.1 ∙ (let none : k ≡ 0 + k = omega arith in ap (λ (j : ℕ). get_or slot j 0) none) ∙ fit.1 k pad))
      (λ ne. was.fit i (omega (arith, lt, ne)) gate)
      (cases_eq i n)

  open_as : (kind : ℕ) → IsOpenAs kind (slots xs at n) → IsOpenAs kind (slot_of first_layout slot 0)
  open_as kind is = subst (IsOpenAs kind) this is

  opened : (next : ℕ) → next ≡ n + 1 → (next ≤ n + 1) × ((i : ℕ) → next ≤ i → i < n + 1 → (slots xs at i).gate ≢ 1)
  opened next is = (omega (arith, is), λ i le lt. absurd (omega (arith, is, le, lt)))

  still : new ≡ old → (slots xs at n).gate ≢ 1 → IsScan xs at (n + 1) new
  still unchanged shut =
      let P : Scan → Type 0 = λ s. IsScan xs at (n + 1) s in
      subst P (sym unchanged) (record {
        set = λ x. iff_trans (was.set x) (iff_back (names_before (slots xs at) n x (λ o. shut o.0)));
        complete = λ len. iff_trans (was.complete len) (iff_back (ends_before (slots xs at) n complete_kind len (λ o. shut o.0)));
        next = omega (arith, was.next);
        few = omega (arith, was.few);
        shut = λ i le lt. ⊎_elim (λ last. subst (λ (k : ℕ). (slots xs at k).gate ≢ 1) (sym last) shut) (λ ne. was.shut i le (omega (arith, lt, ne))) (cases_eq i n);
        fit = fit_now;
      })

  with_range : IsOpenAs range_kind (slots xs at n) → IsScan xs at (n + 1) new
  with_range is =
      let step = takes.range (open_as range_kind is) in
      let after = opened new.next step.2 in
      record {
        set = λ x. iff_trans (step.0 x) (joined x (was.set x) (iff_back (names_here (slots xs at) n x is)));
        complete = λ len. subst (λ (o : Option ℕ). (o ≡ Some len) ↔ LastEndsAt complete_kind (slots xs at) (n + 1) len) (sym step.1) (iff_trans (was.complete len) (iff_back (ends_before (slots xs at) n complete_kind len (λ o. omega (arith, is.1, o.1)))));
        next = after.0;
        few = omega (arith, was.few, step.3);
        shut = after.1;
        fit = fit_now;
      }
    where
      joined : (x : ℕ) → (HasOffset old.set.ranges x ↔ Names (slots xs at) n x) → (Names (slots xs at) n x ⊎ Has (slots xs at n) x ↔ Names (slots xs at) (n + 1) x)
          → (HasOffset old.set.ranges x ⊎ InSlot slot x ↔ Names (slots xs at) (n + 1) x)
      joined x before both = (
        ⊎_elim (λ o. both.0 (inl (before.0 o))) (λ h. both.0 (inr (subst (λ (s : Slot). Has s x) (sym this) h))),
        λ named. ⊎_elim (λ o. inl (before.1 o)) (λ h. inr (subst (λ (s : Slot). Has s x) this h)) (both.1 named),
      )

  with_end : IsOpenAs complete_kind (slots xs at n) → IsScan xs at (n + 1) new
  with_end is =
      let step = takes.end (open_as complete_kind is) in
      let after = opened new.next step.2 in
      record {
        set = λ x. subst (λ (l : List Range). HasOffset l x ↔ Names (slots xs at) (n + 1) x) (sym step.0) (iff_trans (was.set x) (iff_back (names_before (slots xs at) n x (λ o. omega (arith, is.1, o.1)))));
        complete = λ len. subst (λ (o : Option ℕ). (o ≡ Some len) ↔ LastEndsAt complete_kind (slots xs at) (n + 1) len) (sym step.1)
            (iff_trans (some_iff len) (iff_back (ends_here (slots xs at) n complete_kind len is)));
        next = after.0;
        few = omega (arith, was.few, ap (λ (l : List Range). length l) step.0);
        shut = after.1;
        fit = fit_now;
      }
    where
      some_iff : (len : ℕ) → (Some (slot_of first_layout slot 0).end ≡ Some len) ↔ ((slots xs at n).end ≡ len)
      some_iff len = (λ same. let e : (slot_of first_layout slot 0).end ≡ len = cc same in ap (λ (s : Slot). s.end) this ∙ e, λ e. ap (λ (m : ℕ). Some m) (sym (ap (λ (s : Slot). s.end) this) ∙ e))

  pub scan_more : IsScan xs at (n + 1) new
  scan_more = ⊎_elim
      (λ gate. let fit = subst IsFit (sym this) (takes.fit (sym (ap (λ (s : Slot). s.gate) this) ∙ gate)).0 in by_kind gate fit.kind)
      (λ shut. still (takes.shut (λ gate. shut (ap (λ (s : Slot). s.gate) this ∙ gate))) shut)
      (cases_eq (slots xs at n).gate 1)
    where
      by_kind : (slots xs at n).gate ≡ 1 → ((slots xs at n).kind ≡ range_kind) ⊎ ((slots xs at n).kind ≡ complete_kind) → IsScan xs at (n + 1) new
      by_kind gate (inl one) = with_range (gate, one)
      by_kind gate (inr two) = with_end (gate, two)

pub goes_more : (first n : ℕ) (bytes slot : List ℕ) (start old new : Scan) → slot ≡ take (16 * n + 16 - 16 * n) (drop (16 * n) bytes) → GoesOver first n bytes start old → Takes (first + n) slot old new → GoesOver first (n + 1) bytes start new
goes_more first n bytes slot start old new is so_far takes xs at same was =
    let before = so_far xs at (λ k lt. same k (omega (arith, lt))) was in
    let count : first + n + 1 ≡ first + (n + 1) = omega arith in
    subst (λ (m : ℕ). IsScan xs at m new) count (scan_more xs at (first + n) slot old new here before takes)
  where
    here : (k : ℕ) → k < 16 → get_or xs (slot_at first_layout at (first + n) + k) 0 ≡ get_or slot k 0
    here k lt =
        let place : slot_at first_layout at (first + n) + k ≡ slot_at first_layout at first + (16 * n + k) = omega arith in
        ap (λ (j : ℕ). get_or xs j 0) place ∙ same (16 * n + k) (omega (arith, lt))
        ∙ sym (ap (λ (l : List ℕ). get_or l k 0) is ∙ get_or-take (16 * n + 16 - 16 * n) (drop (16 * n) bytes) k 0 (omega (arith, lt)) ∙ get_or-drop (16 * n) bytes k 0)

pub goes_none : (first : ℕ) (bytes : List ℕ) (scan : Scan) → GoesOver first 0 bytes scan scan
goes_none first bytes scan xs at same was = let count : first ≡ first + 0 = omega arith in subst (λ (m : ℕ). IsScan xs at m scan) count was

-- a slot that is none ends it
pub meets_bad : (first n count : ℕ) (bytes slot : List ℕ) (start old : Scan) → n < count → slot ≡ take (16 * n + 16 - 16 * n) (drop (16 * n) bytes) → GoesOver first n bytes start old → IsBad slot → MeetsBad first count bytes start (first + n)
meets_bad first n count bytes slot start old lt is so_far bad = (
  omega (arith, lt),
  λ xs at same was.
      let here : (k : ℕ) → k < 16 → get_or xs (slot_at first_layout at (first + n) + k) 0 ≡ get_or slot k 0 = λ k small.
      let place : slot_at first_layout at (first + n) + k ≡ slot_at first_layout at first + (16 * n + k) = omega arith in
      ap (λ (j : ℕ). get_or xs j 0) place ∙ same (16 * n + k) (omega (arith, lt, small))
      ∙ sym (ap (λ (l : List ℕ). get_or l k 0) is ∙ get_or-take (16 * n + 16 - 16 * n) (drop (16 * n) bytes) k 0 (omega (arith, small)) ∙ get_or-drop (16 * n) bytes k 0) in
      let this : slot_of first_layout xs (slot_at first_layout at (first + n)) ≡ slot_of first_layout slot 0 =
      slot_moved first_layout slot xs 0 (slot_at first_layout at (first + n)) first_fits (λ k small. let none : k ≡ 0 + k = omega arith in here k small ∙ ap (λ (j : ℕ). get_or slot j 0) none) in
      let scan = so_far xs at (λ k small. same k (omega (arith, small, lt))) was in
      record {
        is_open = ap (λ (s : Slot). s.gate) this ∙ bad.0;
        bad = λ good. bad.1 (subst IsFit this good.0, λ k pad. let none : k ≡ 0 + k = omega arith in ap (λ (j : ℕ). get_or slot j 0) (sym none) ∙ sym (here k pad.1) ∙ good.1 k pad);
        before = λ k below. scan.fit k below;
      },
)
