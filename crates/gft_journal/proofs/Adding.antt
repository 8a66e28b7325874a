-- What a ranges part stands for when one shut slot of the selected bank may have opened.
use Rattle.std.proofs.Common.{◌≡◌, ◌≢◌, ◌⊎◌, ◌↔◌, inl, inr, ⊎_elim, ℕ, ◌+◌, ◌%◌, ◌<◌, ◌≤◌, List, length, get_or, refl, sym, ◌∙◌, ap, subst, arith}
use Rattle.std.proofs.lemmas.Bool.{cases_eq}
use Rattle.gft_drive.specs.Words.{Slot, first_layout, bank_at, slot_at, IsPadded}
use Rattle.gft_drive.specs.Words.{selected, slot, IsOpenAs, Has, Names, LastEndsAt, Covers, IsComplete, IsBorn, IsIntact, IsFit, range_kind, complete_kind}
use Rattle.gft_drive.specs.Words.{Written, DiffersIn}
use Rattle.gft_drive.proofs.Lemmas.{IsLayout, written_differs, slot_moved, slot_same, others_bytes}
use Rattle.gft_drive.proofs.Lemmas.{SameBut, names_same, names_added, ends_same, ends_last}
use Rattle.gft_journal.specs.Slot.{IsSlot, OpensSlot, bank_number}
use Rattle.gft_journal.specs.Journal.{Matches, SameJournal, AddsRange, AddsOrNot, Completes, CompletesOrNot}
use Rattle.gft_range.specs.declared.Range.{Range}
use Rattle.gft_journal.specs.declared.journal.Journal.{Journal}

pub first_fits : IsLayout first_layout
first_fits = record { head = omega arith; start = omega arith; end = omega arith }

abbrev place : List ℕ → ℕ → ℕ
place xs n = slot_at first_layout (bank_at (selected xs)) n

module _ (xs ys : List ℕ) (n : ℕ) (lt : n < 65534) (differs : DiffersIn (slot_at first_layout (bank_at (selected xs)) n) 16 xs ys) where
  same_selector : selected ys ≡ selected xs
  same_selector = ap (λ (k : ℕ). k % 2) (differs.before 0 (omega arith))

  same_version : get_or ys (bank_at (selected xs)) 0 ≡ get_or xs (bank_at (selected xs)) 0
  same_version = differs.before (bank_at (selected xs)) (omega arith)

  same_born : get_or ys 1 0 ≡ get_or xs 1 0
  same_born = differs.before 1 (omega arith)

  other_bytes : (i : ℕ) → (i ≡ n → ⊥) → (k : ℕ) → k < 16 → get_or ys (place xs i + k) 0 ≡ get_or xs (place xs i + k) 0
  other_bytes i ne = others_bytes first_layout (bank_at (selected xs)) n i (place xs n) 16 xs ys (λ is. ne (sym is)) (omega arith) (omega arith) differs

  others : SameBut 65534 n (slot xs (selected xs)) (slot ys (selected xs))
  others i below ne = slot_same first_layout xs ys (place xs i) first_fits (other_bytes i ne)

  -- a fact of the bank that was selected is one of the part
  part_has : (P : ℕ → Type 0) → P (selected xs) → P (selected ys)
  part_has P is = subst P (sym same_selector) is

  born_same : IsBorn ys ↔ IsBorn xs
  born_same = (λ is. sym same_born ∙ is, λ is. same_born ∙ is)

  sound_on : ((slot ys (selected xs) n).gate ≡ 1 → IsFit (slot ys (selected xs) n) × IsPadded first_layout ys (place xs n)) → IsIntact xs → IsIntact ys
  sound_on new was = record {
    size = differs.size ∙ was.size;
    version = part_has (λ b. get_or ys (bank_at b) 0 ≤ 1) (omega (arith, same_version, was.version));
    slots = part_has (λ b. (i : ℕ) → i < 65534 → (slot ys b i).gate ≡ 1 → IsFit (slot ys b i) × IsPadded first_layout ys (slot_at first_layout (bank_at b) i)) each;
  }
    where
      each : (i : ℕ) → i < 65534 → (slot ys (selected xs) i).gate ≡ 1 → IsFit (slot ys (selected xs) i) × IsPadded first_layout ys (place xs i)
      each i below gate = ⊎_elim
          (λ at. let P : ℕ → Type 0 = λ k. (slot ys (selected xs) k).gate ≡ 1 → IsFit (slot ys (selected xs) k) × IsPadded first_layout ys (place xs k) in subst P (sym at) new gate)
          (λ ne.
          let same = slot_same first_layout xs ys (place xs i) first_fits (other_bytes i ne) in
          let old = was.slots i below (sym (ap (λ (s : Slot). s.gate) same) ∙ gate) in
          (subst IsFit (sym same) old.0, λ k pad. other_bytes i ne k pad.1 ∙ old.1 k pad))
          (cases_eq i n)

  module _ (was_shut : (slot xs (selected xs) n).gate ≢ 1) where
    -- the slot is still shut
    stays : (slot ys (selected xs) n).gate ≢ 1 → SameJournal xs ys
    stays shut = record {
      ranges = λ x. part_has (λ b. Names (slot ys b) 65534 x ↔ Covers xs x) (names_same 65534 n x (slot xs (selected xs)) (slot ys (selected xs)) others (λ o. was_shut o.0) (λ o. shut o.0));
      rest = record {
        complete = λ len. part_has (λ b. LastEndsAt complete_kind (slot ys b) 65534 len ↔ IsComplete xs len) (ends_same complete_kind 65534 n len (slot xs (selected xs)) (slot ys (selected xs)) others (λ o. was_shut o.0) (λ o. shut o.0));
        born = born_same;
        sound = sound_on (λ gate. absurd (shut gate));
      };
    }

    -- the slot has opened for a range
    adds : (range : Range) → range.start < range.end → slot ys (selected xs) n ≡ record { gate = 1; kind = range_kind; start = range.start; end = range.end } → IsPadded first_layout ys (place xs n) → AddsRange range xs ys
    adds range some is padded =
        let P : Slot → ℕ → Type 0 = λ s x. Names (slot ys (selected xs)) 65534 x ↔ Covers xs x ⊎ Has s x in
        let opened : IsOpenAs range_kind (slot ys (selected xs) n) = (ap (λ (s : Slot). s.gate) is, ap (λ (s : Slot). s.kind) is) in
        record {
          ranges = λ x. part_has (λ b. Names (slot ys b) 65534 x ↔ Covers xs x ⊎ ((range.start ≤ x) × (x < range.end)))
              (subst (λ (s : Slot). P s x) is (names_added 65534 n x (slot xs (selected xs)) (slot ys (selected xs)) lt others (λ o. was_shut o.0) opened));
          rest = record {
            complete = λ len. part_has (λ b. LastEndsAt complete_kind (slot ys b) 65534 len ↔ IsComplete xs len)
                (ends_same complete_kind 65534 n len (slot xs (selected xs)) (slot ys (selected xs)) others (λ o. was_shut o.0) (λ o. no_end opened o));
            born = born_same;
            sound = sound_on (λ gate. (subst IsFit (sym is) (record { kind = inl refl; range = λ k. some; complete = λ k. absurd (omega (arith, k)) }), padded));
          };
        }
      where
        no_end : IsOpenAs range_kind (slot ys (selected xs) n) → IsOpenAs complete_kind (slot ys (selected xs) n) → ⊥
        no_end one two = omega (arith, one.1, two.1)

    -- the slot has opened for the complete length, behind all others
    completes : (len : ℕ) → ((k : ℕ) → n < k → k < 65534 → (slot xs (selected xs) k).gate ≢ 1) → slot ys (selected xs) n ≡ record { gate = 1; kind = complete_kind; start = 0; end = len } → IsPadded first_layout ys (place xs n) → Completes len xs ys
    completes len behind is padded = record {
      ranges = λ x. part_has (λ b. Names (slot ys b) 65534 x ↔ Covers xs x) (names_same 65534 n x (slot xs (selected xs)) (slot ys (selected xs)) others (λ o. was_shut o.0) (λ o. not_range o));
      complete = λ m. part_has (λ b. LastEndsAt complete_kind (slot ys b) 65534 m ↔ (len ≡ m)) (subst (λ (e : ℕ). LastEndsAt complete_kind (slot ys (selected xs)) 65534 m ↔ (e ≡ m)) (ap (λ (s : Slot). s.end) is)
          (ends_last complete_kind 65534 n m (slot ys (selected xs)) lt opened (λ k after below gate. behind k after below (subst (λ (s : Slot). s.gate ≡ 1) (others k below (λ same. omega (arith, same, after))) gate))));
      born = born_same;
      sound = sound_on (λ gate. (subst IsFit (sym is) (record { kind = inr refl; range = λ k. absurd (omega (arith, k)); complete = λ k. refl }), padded));
    }
      where
        opened : IsOpenAs complete_kind (slot ys (selected xs) n)
        opened = (ap (λ (s : Slot). s.gate) is, ap (λ (s : Slot). s.kind) is)

        not_range : IsOpenAs range_kind (slot ys (selected xs) n) → ⊥
        not_range one = omega (arith, one.1, opened.1)

-- the bytes of a slot stand at this place
abbrev pub HasSlot : List ℕ → ℕ → List ℕ → Type 0
HasSlot ys at slot = (k : ℕ) → k < 16 → get_or ys (at + k) 0 ≡ get_or slot k 0

module _ (xs ys bytes : List ℕ) (n : ℕ) (range : Range) (lt : n < 65534) (some : range.start < range.end) (is : IsSlot range_kind range.start range.end bytes)
    (differs : DiffersIn (slot_at first_layout (bank_at (selected xs)) n) 16 xs ys) (was_shut : (slot xs (selected xs) n).gate ≢ 1) where
  pub adds_whole : HasSlot ys (place xs n) bytes → AddsRange range xs ys
  adds_whole has = adds xs ys n lt differs was_shut range some (slot_moved first_layout bytes ys 0 (place xs n) first_fits moved ∙ is.is) (λ k pad. moved k pad.1 ∙ is.padded k pad)
    where
      moved : (k : ℕ) → k < 16 → get_or ys (place xs n + k) 0 ≡ get_or bytes (0 + k) 0
      moved k below = let none : k ≡ 0 + k = omega arith in has k below ∙ ap (λ (i : ℕ). get_or bytes i 0) none

  pub adds_or_not : (get_or ys (place xs n) 0 ≡ 1 → (k : ℕ) → 1 ≤ k → k < 16 → get_or ys (place xs n + k) 0 ≡ get_or bytes k 0) → AddsOrNot range xs ys
  adds_or_not opened = ⊎_elim
      (λ open_gate. inr (adds_whole (λ k below. ⊎_elim
      (λ first. let at : place xs n + 0 ≡ place xs n = omega arith in
      ap (λ (i : ℕ). get_or ys (place xs n + i) 0) first ∙ ap (λ (i : ℕ). get_or ys i 0) at ∙ open_gate ∙ sym (ap (λ (s : Slot). s.gate) is.is) ∙ ap (λ (i : ℕ). get_or bytes i 0) (sym first))
      (λ later. opened open_gate k (omega (arith, later)) below)
      (cases_eq k 0))))
      (λ shut. inl (stays xs ys n lt differs was_shut shut))
      (cases_eq (get_or ys (place xs n) 0) 1)

-- a step of the journal's next slot
module _ (journal : Journal) (xs ys bytes : List ℕ) (range : Range) (at : ℕ) (was : Matches journal xs) (room : journal.next < 65533) (some : range.start < range.end)
    (is : IsSlot range_kind range.start range.end bytes) (is_place : at ≡ slot_at first_layout (bank_at (bank_number journal.bank)) journal.next) where
  here : at ≡ place xs journal.next
  here = is_place ∙ ap (λ (b : ℕ). slot_at first_layout (bank_at b) journal.next) (sym was.bank)

  shut_next : (slot xs (selected xs) journal.next).gate ≢ 1
  shut_next = subst (λ (b : ℕ). (slot xs b journal.next).gate ≢ 1) (sym was.bank) (was.shut journal.next (omega arith) (omega (arith, room)))

  pub opens_range : OpensSlot at bytes xs ys → AddsOrNot range xs ys
  opens_range opens =
      let moved = subst (λ (p : ℕ). OpensSlot p bytes xs ys) here opens in
      adds_or_not xs ys bytes journal.next range (omega (arith, room)) some is moved.differs shut_next moved.opened

  pub writes_range : Written at bytes xs ys → AddsRange range xs ys
  writes_range written =
      let moved = subst (λ (p : ℕ). Written p bytes xs ys) here written in
      let has : HasSlot ys (place xs journal.next) bytes = λ k below. moved.inside k (omega (arith, below, is.size)) in
      adds_whole xs ys bytes journal.next range (omega (arith, room)) some is (whole_differs moved) shut_next has
    where
      within : place xs journal.next + 16 ≤ length xs
      within = omega (arith, was.sound.size, room)

      whole_differs : Written (place xs journal.next) bytes xs ys → DiffersIn (place xs journal.next) 16 xs ys
      whole_differs moved =
          let differs = written_differs (place xs journal.next) bytes xs ys (omega (arith, within, is.size)) moved in
          subst (λ (n : ℕ). DiffersIn (place xs journal.next) n xs ys) is.size differs

  pub matches_next : Written at bytes xs ys → Matches (record journal { next = journal.next + 1 }) ys
  matches_next written =
      let moved = subst (λ (p : ℕ). Written p bytes xs ys) here written in
      let differs = subst (λ (n : ℕ). DiffersIn (place xs journal.next) n xs ys) is.size (written_differs (place xs journal.next) bytes xs ys (omega (arith, was.sound.size, room, is.size)) moved) in
      let selector = same_selector xs ys journal.next (omega (arith, room)) differs in
      let adds = writes_range written in
      record {
        sound = adds.rest.sound was.sound;
        bank = selector ∙ was.bank;
        born = (λ b. adds.rest.born.1 (was.born.0 b), λ b. was.born.1 (adds.rest.born.0 b));
        shut = λ i above below.
            let ne : i ≡ journal.next → ⊥ = λ is_next. omega (arith, above, is_next) in
            let same = others xs ys journal.next (omega (arith, room)) differs i below ne in
            let old : (slot xs (selected xs) i).gate ≢ 1 = subst (λ (b : ℕ). (slot xs b i).gate ≢ 1) (sym was.bank) (was.shut i (omega (arith, above)) below) in
            subst (λ (b : ℕ). (slot ys b i).gate ≢ 1) was.bank (subst (λ (s : Slot). s.gate ≢ 1) (sym same) old);
      }

-- the complete slot of the journal's next slot
module _ (journal : Journal) (xs ys bytes : List ℕ) (len at : ℕ) (was : Matches journal xs) (room : journal.next < 65534)
    (is : IsSlot complete_kind 0 len bytes) (is_place : at ≡ slot_at first_layout (bank_at (bank_number journal.bank)) journal.next) where
  end_here : at ≡ place xs journal.next
  end_here = is_place ∙ ap (λ (b : ℕ). slot_at first_layout (bank_at b) journal.next) (sym was.bank)

  shut_from : (k : ℕ) → journal.next ≤ k → k < 65534 → (slot xs (selected xs) k).gate ≢ 1
  shut_from k le below = subst (λ (b : ℕ). (slot xs b k).gate ≢ 1) (sym was.bank) (was.shut k le below)

  module _ (differs : DiffersIn (slot_at first_layout (bank_at (selected xs)) journal.next) 16 xs ys) where
    ends_whole : HasSlot ys (place xs journal.next) bytes → Completes len xs ys
    ends_whole has = completes xs ys journal.next room differs (shut_from journal.next (omega arith) room) len (λ k after below. shut_from k (omega (arith, after)) below)
        (slot_moved first_layout bytes ys 0 (place xs journal.next) first_fits moved ∙ is.is) (λ k pad. moved k pad.1 ∙ is.padded k pad)
      where
        moved : (k : ℕ) → k < 16 → get_or ys (place xs journal.next + k) 0 ≡ get_or bytes (0 + k) 0
        moved k below = let none : k ≡ 0 + k = omega arith in has k below ∙ ap (λ (i : ℕ). get_or bytes i 0) none

  pub opens_end : OpensSlot at bytes xs ys → CompletesOrNot len xs ys
  opens_end opens =
      let moved = subst (λ (p : ℕ). OpensSlot p bytes xs ys) end_here opens in
      ⊎_elim
      (λ open_gate. inr (ends_whole moved.differs (λ k below. ⊎_elim
      (λ first. let none : place xs journal.next + 0 ≡ place xs journal.next = omega arith in
      ap (λ (i : ℕ). get_or ys (place xs journal.next + i) 0) first ∙ ap (λ (i : ℕ). get_or ys i 0) none ∙ open_gate ∙ sym (ap (λ (s : Slot). s.gate) is.is) ∙ ap (λ (i : ℕ). get_or bytes i 0) (sym first))
      (λ later. moved.opened open_gate k (omega (arith, later)) below)
      (cases_eq k 0))))
      (λ shut. inl (stays xs ys journal.next room moved.differs (shut_from journal.next (omega arith) room) shut))
      (cases_eq (get_or ys (place xs journal.next) 0) 1)

  module _ (written : Written at bytes xs ys) where
    end_moved : Written (place xs journal.next) bytes xs ys
    end_moved = subst (λ (p : ℕ). Written p bytes xs ys) end_here written

    end_differs : DiffersIn (place xs journal.next) 16 xs ys
    end_differs = subst (λ (n : ℕ). DiffersIn (place xs journal.next) n xs ys) is.size (written_differs (place xs journal.next) bytes xs ys (omega (arith, was.sound.size, room, is.size)) end_moved)

    pub writes_end : Completes len xs ys
    writes_end = ends_whole end_differs (λ k below. end_moved.inside k (omega (arith, below, is.size)))

    pub matches_end : Matches (record journal { next = journal.next + 1 }) ys
    matches_end = record {
      sound = writes_end.sound was.sound;
      bank = same_selector xs ys journal.next room end_differs ∙ was.bank;
      born = (λ b. writes_end.born.1 (was.born.0 b), λ b. was.born.1 (writes_end.born.0 b));
      shut = λ i above below.
          let ne : i ≡ journal.next → ⊥ = λ is_next. omega (arith, above, is_next) in
          let same = others xs ys journal.next room end_differs i below ne in
          subst (λ (b : ℕ). (slot ys b i).gate ≢ 1) was.bank (subst (λ (s : Slot). s.gate ≢ 1) (sym same) (shut_from i (omega (arith, above)) below));
    }
