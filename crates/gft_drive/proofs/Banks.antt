-- What the slots of a bank name, when one of them changes.
use Rattle.std.proofs.Common.{◌≡◌, ◌⊎◌, ◌↔◌, inl, inr, ⊎_elim, ℕ, ◌<◌, sym, subst}
use Rattle.std.proofs.lemmas.Bool.{cases_eq, cases_lt}
use Rattle.gft_drive.specs.Layout.{Slot}
use Rattle.gft_drive.specs.Ranges.{IsOpenAs, Has, Names, LastEndsAt, range_kind}

-- all slots among the first n but this one are the same
abbrev pub SameBut : ℕ → ℕ → (ℕ → Slot) → (ℕ → Slot) → Type 0
SameBut n i f g = (k : ℕ) → k < n → (k ≡ i → ⊥) → g k ≡ f k

abbrev pub SameBelow : ℕ → (ℕ → Slot) → (ℕ → Slot) → Type 0
SameBelow n f g = (k : ℕ) → k < n → g k ≡ f k

same_back : (n i : ℕ) (f g : ℕ → Slot) → SameBut n i f g → SameBut n i g f
same_back n i f g same k lt ne = sym (same k lt ne)

-- what is named by another slot stays named
names_on : (n i x : ℕ) (f g : ℕ → Slot) → SameBut n i f g → (IsOpenAs range_kind (f i) → ⊥) → Names f n x → Names g n x
names_on n i x f g same shut named = ⊎_elim
    (λ is. absurd (shut (subst (λ (k : ℕ). IsOpenAs range_kind (f k)) is named.2)))
    (λ ne. let P : Slot → Type 0 = λ s. IsOpenAs range_kind s × Has s x in let there = subst P (sym (same named.0 named.1 ne)) (named.2, named.3) in (named.0, named.1, there.0, there.1))
    (cases_eq named.0 i)

-- a slot that opens for no range, before or after, changes nothing
pub names_same : (n i x : ℕ) (f g : ℕ → Slot) → SameBut n i f g → (IsOpenAs range_kind (f i) → ⊥) → (IsOpenAs range_kind (g i) → ⊥) → Names g n x ↔ Names f n x
names_same n i x f g same was is = (names_on n i x g f (same_back n i f g same) is, names_on n i x f g same was)

-- a slot that opens for a range adds it
pub names_added : (n i x : ℕ) (f g : ℕ → Slot) → i < n → SameBut n i f g → (IsOpenAs range_kind (f i) → ⊥) → IsOpenAs range_kind (g i) → Names g n x ↔ Names f n x ⊎ Has (g i) x
names_added n i x f g lt same was is = (forth, ⊎_elim (names_on n i x f g same was) (λ has. (i, lt, is, has)))
  where
    forth : Names g n x → Names f n x ⊎ Has (g i) x
    forth named = ⊎_elim
        (λ at. inr (subst (λ (k : ℕ). Has (g k) x) at named.3))
        (λ ne. let P : Slot → Type 0 = λ s. IsOpenAs range_kind s × Has s x in let there = subst P (same named.0 named.1 ne) (named.2, named.3) in inl (named.0, named.1, there.0, there.1))
        (cases_eq named.0 i)

ends_on : (kind n i end : ℕ) (f g : ℕ → Slot) → SameBut n i f g → (IsOpenAs kind (f i) → ⊥) → (IsOpenAs kind (g i) → ⊥) → LastEndsAt kind f n end → LastEndsAt kind g n end
ends_on kind n i end f g same was is ends = ⊎_elim
    (λ at. absurd (was (subst (λ (k : ℕ). IsOpenAs kind (f k)) at ends.2)))
    (λ ne.
    let P : Slot → Type 0 = λ s. IsOpenAs kind s × (s.end ≡ end) in
    let there = subst P (sym (same ends.0 ends.1 ne)) (ends.2, ends.3) in
    (ends.0, ends.1, there.0, there.1, λ j after lt open_slot. ⊎_elim (λ at. is (subst (λ (k : ℕ). IsOpenAs kind (g k)) at open_slot)) (λ other. ends.4 j after lt (subst (IsOpenAs kind) (same j lt other) open_slot)) (cases_eq j i)))
    (cases_eq ends.0 i)

-- a slot that opens for no end of this kind, before or after, changes nothing
pub ends_same : (kind n i end : ℕ) (f g : ℕ → Slot) → SameBut n i f g → (IsOpenAs kind (f i) → ⊥) → (IsOpenAs kind (g i) → ⊥) → LastEndsAt kind g n end ↔ LastEndsAt kind f n end
ends_same kind n i end f g same was is = (ends_on kind n i end g f (same_back n i f g same) is was, ends_on kind n i end f g same was is)

-- a slot of this kind that opens behind all others ends it
pub ends_last : (kind n i end : ℕ) (g : ℕ → Slot) → i < n → IsOpenAs kind (g i) → ((k : ℕ) → i < k → k < n → (g k).gate ≡ 1 → ⊥) → (LastEndsAt kind g n end ↔ ((g i).end ≡ end))
ends_last kind n i end g lt is behind = (forth, λ ends. (i, lt, is, ends, λ j after below open_slot. behind j after below open_slot.0))
  where
    forth : LastEndsAt kind g n end → (g i).end ≡ end
    forth ends = ⊎_elim
        (λ at. subst (λ (k : ℕ). (g k).end ≡ end) at ends.3)
        (⊎_elim (λ below. absurd (ends.4 i below lt is)) (λ above. absurd (behind ends.0 above ends.1 ends.2.0)))
        (Rattle.std.proofs.lemmas.Bool.cases_order ends.0 i)

-- a bank whose slots are all the same names the same
names_below : (n x : ℕ) (f g : ℕ → Slot) → SameBelow n f g → Names f n x → Names g n x
names_below n x f g same named =
    let P : Slot → Type 0 = λ s. IsOpenAs range_kind s × Has s x in
    let there = subst P (sym (same named.0 named.1)) (named.2, named.3) in
    (named.0, named.1, there.0, there.1)

below_back : (n : ℕ) (f g : ℕ → Slot) → SameBelow n f g → SameBelow n g f
below_back n f g same k lt = sym (same k lt)

pub names_all : (n x : ℕ) (f g : ℕ → Slot) → SameBelow n f g → Names g n x ↔ Names f n x
names_all n x f g same = (names_below n x g f (below_back n f g same), names_below n x f g same)

ends_below : (kind n end : ℕ) (f g : ℕ → Slot) → SameBelow n f g → LastEndsAt kind f n end → LastEndsAt kind g n end
ends_below kind n end f g same ends =
    let P : Slot → Type 0 = λ s. IsOpenAs kind s × (s.end ≡ end) in
    let there = subst P (sym (same ends.0 ends.1)) (ends.2, ends.3) in
    (ends.0, ends.1, there.0, there.1, λ j after lt open_slot. ends.4 j after lt (subst (IsOpenAs kind) (same j lt) open_slot))

pub ends_all : (kind n end : ℕ) (f g : ℕ → Slot) → SameBelow n f g → LastEndsAt kind g n end ↔ LastEndsAt kind f n end
ends_all kind n end f g same = (ends_below kind n end g f (below_back n f g same), ends_below kind n end f g same)
