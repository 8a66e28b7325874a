-- What the first slots of a bank stand for.
use Rattle.std.specs.Prelude.{◌≡◌, ◌≢◌, ◌↔◌, ◌⊎◌, ℕ, ◌+◌, ◌*◌, ◌<◌, ◌≤◌, List, length, slice_index, Some}
use Rattle.gft_drive.specs.Words.{IsFit, IsOpenAs, IsPadded, LastEndsAt, Names, complete_kind, first_layout}
use Rattle.gft_drive.specs.Words.{range_kind, slot_at, slot_of}
use Rattle.gft_base.specs.declared.TheConstants.{LIMIT}
use Rattle.gft_range.specs.Words.{HasOffset}
use Rattle.gft_journal.specs.Bank.{IsEnd}
use Rattle.gft_journal.specs.declared.scan.Scan.{Scan}

-- the offset is among those of a slot
abbrev pub InSlot : List ℕ → ℕ → Type 0
InSlot slot x = ((slot_of first_layout slot 0).start ≤ x) × (x < (slot_of first_layout slot 0).end)

abbrev pub IsGoodSlot : List ℕ → Type 0
IsGoodSlot slot = IsFit (slot_of first_layout slot 0) × IsPadded first_layout slot 0

-- the slot's bytes are those of no slot
abbrev pub IsBad : List ℕ → Type 0
IsBad slot = ((slot_of first_layout slot 0).gate ≡ 1) × ¬ IsGoodSlot slot

-- no range ends above the limit, and no length is above it
pub record IsInLimit (scan : Scan) : Type 0 where
  pub ranges : (x : ℕ) → HasOffset scan.set.ranges x → x < LIMIT
  pub complete : IsEnd scan.complete

-- one slot more is taken into account
pub record Takes (index : ℕ) (slot : List ℕ) (old new : Scan) : Type 0 where
  pub shut : (slot_of first_layout slot 0).gate ≢ 1 → new ≡ old
  pub range : IsOpenAs range_kind (slot_of first_layout slot 0)
      → ((x : ℕ) → HasOffset new.set.ranges x ↔ (HasOffset old.set.ranges x ⊎ InSlot slot x))
      × (new.complete ≡ old.complete) × (new.next ≡ index + 1)
      × (length new.set.ranges ≤ length old.set.ranges + 1)
  pub end : IsOpenAs complete_kind (slot_of first_layout slot 0)
      → (new.set.ranges ≡ old.set.ranges) × (new.complete ≡ Some (slot_of first_layout slot 0).end)
      × (new.next ≡ index + 1)
  pub fit : (slot_of first_layout slot 0).gate ≡ 1 → IsGoodSlot slot

-- the scan is that of the first n slots of the bank that begins here
pub record IsScan (xs : List ℕ) (at n : ℕ) (scan : Scan) : Type 0 where
  pub set : (x : ℕ) → HasOffset scan.set.ranges x
      ↔ Names (λ i. slot_of first_layout xs (slot_at first_layout at i)) n x
  pub complete : (len : ℕ) → (scan.complete ≡ Some len)
      ↔ LastEndsAt complete_kind (λ i. slot_of first_layout xs (slot_at first_layout at i)) n len
  pub next : scan.next ≤ n
  pub few : length scan.set.ranges ≤ n
  pub shut : (i : ℕ) → scan.next ≤ i → i < n
      → (slot_of first_layout xs (slot_at first_layout at i)).gate ≢ 1
  pub fit : (i : ℕ) → i < n → (slot_of first_layout xs (slot_at first_layout at i)).gate ≡ 1
      → IsFit (slot_of first_layout xs (slot_at first_layout at i))
      × IsPadded first_layout xs (slot_at first_layout at i)

-- the part has these bytes as the slots of the bank at this place from this one on
abbrev pub HasSlots : List ℕ → ℕ → ℕ → ℕ → List ℕ → Type 0
HasSlots xs at first n bytes = (k : ℕ) → k < 16 * n
    → slice_index xs (slot_at first_layout at first + k) ≡ slice_index bytes k

-- in every bank that has these bytes as its slots from the first on, a scan of those before becomes
-- one of these too
abbrev pub GoesOver : ℕ → ℕ → List ℕ → Scan → Scan → Type 0
GoesOver first n bytes old new =
    (xs : List ℕ) (at : ℕ) → HasSlots xs at first n bytes → IsScan xs at first old
    → IsScan xs at (first + n) new

-- the first open slot of the bank at this place that is none
pub record IsBadAt (xs : List ℕ) (at i : ℕ) : Type 0 where
  pub is_open : (slot_of first_layout xs (slot_at first_layout at i)).gate ≡ 1
  pub bad : ¬ (IsFit (slot_of first_layout xs (slot_at first_layout at i))
      × IsPadded first_layout xs (slot_at first_layout at i))
  pub before : (k : ℕ) → k < i → (slot_of first_layout xs (slot_at first_layout at k)).gate ≡ 1
      → IsFit (slot_of first_layout xs (slot_at first_layout at k))
      × IsPadded first_layout xs (slot_at first_layout at k)

-- in every such bank this is the first bad slot
abbrev pub MeetsBad : ℕ → ℕ → List ℕ → Scan → ℕ → Type 0
MeetsBad first n bytes old i =
    (i < first + n) × ((xs : List ℕ) (at : ℕ) → HasSlots xs at first n bytes → IsScan xs at first old
    → IsBadAt xs at i)
