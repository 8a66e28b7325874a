-- What a journal's calls do to the journal that a ranges part stands for.
use Rattle.std.specs.Prelude.{◌≡◌, ◌≢◌, ◌↔◌, ◌⊎◌, ℕ, ◌-◌, ◌<◌, ◌≤◌, List, Option, Some, IsTrue}
use Rattle.gft_drive.specs.declared.Part.TheVariants.{Ranges}
use Rattle.gft_drive.specs.Words.{Image, DriveState, IsSynced}
use Rattle.gft_drive.specs.Words.{selected, slot, Covers, IsComplete, IsBorn, IsIntact}
use Rattle.gft_base.specs.declared.TheConstants.{LIMIT}
use Rattle.gft_journal.specs.Slot.{bank_number}
use Rattle.gft_range.specs.Words.{HasOffset, InRange}
use Rattle.gft_range.specs.declared.Range.{Range}
use Rattle.gft_journal.specs.declared.journal.Journal.{Journal}

abbrev pub slots_left : Journal → ℕ
slots_left journal = 65533 - journal.next

-- the journal is that of this ranges part: the same bank, and no slot is open from the next one on
pub record Matches (journal : Journal) (xs : List ℕ) : Type 0 where
  pub sound : IsIntact xs
  pub bank : selected xs ≡ bank_number journal.bank
  pub born : IsTrue journal.born ↔ IsBorn xs
  pub shut : (i : ℕ) → journal.next ≤ i → i < 65534 → (slot xs (bank_number journal.bank) i).gate ≢ 1

-- the journal is that of the drive, and every crash now leaves it
pub record IsJournalOf (journal : Journal) (drive : DriveState) : Type 0 where
  pub matches : (read : Image) → drive.contents ≡ Some read → Matches journal read.ranges
  pub synced : IsSynced Ranges drive

pub record IsRange (range : Range) : Type 0 where
  pub some : range.start < range.end
  pub below : range.end ≤ LIMIT

-- what a ranges part stands for, but for the ranges, is the same
pub record KeepsRest (old new : List ℕ) : Type 0 where
  pub complete : (len : ℕ) → IsComplete new len ↔ IsComplete old len
  pub born : IsBorn new ↔ IsBorn old
  pub sound : IsIntact old → IsIntact new

pub record SameJournal (old new : List ℕ) : Type 0 where
  pub ranges : (x : ℕ) → Covers new x ↔ Covers old x
  pub rest : KeepsRest old new

-- the ranges are those of before and this one
pub record AddsRange (range : Range) (old new : List ℕ) : Type 0 where
  pub ranges : (x : ℕ) → Covers new x ↔ Covers old x ⊎ InRange range x
  pub rest : KeepsRest old new

abbrev pub AddsOrNot : Range → List ℕ → List ℕ → Type 0
AddsOrNot range old new = SameJournal old new ⊎ AddsRange range old new

-- the ranges and the complete length are these
pub record Becomes (set : List Range) (end : Option ℕ) (old new : List ℕ) : Type 0 where
  pub ranges : (x : ℕ) → Covers new x ↔ HasOffset set x
  pub complete : (len : ℕ) → IsComplete new len ↔ (end ≡ Some len)
  pub born : IsBorn new ↔ IsBorn old
  pub sound : IsIntact old → IsIntact new

abbrev pub BecomesOrNot : List Range → Option ℕ → List ℕ → List ℕ → Type 0
BecomesOrNot set complete old new = SameJournal old new ⊎ Becomes set complete old new

-- the ranges are exactly the first len offsets in what a read gives
abbrev pub AreJustBelow : ℕ → DriveState → Type 0
AreJustBelow len drive =
    (read : Image) → drive.contents ≡ Some read → (x : ℕ) → Covers read.ranges x ↔ (x < len)

-- the file is complete with this length
pub record Completes (len : ℕ) (old new : List ℕ) : Type 0 where
  pub ranges : (x : ℕ) → Covers new x ↔ Covers old x
  pub complete : (n : ℕ) → IsComplete new n ↔ (len ≡ n)
  pub born : IsBorn new ↔ IsBorn old
  pub sound : IsIntact old → IsIntact new

abbrev pub CompletesOrNot : ℕ → List ℕ → List ℕ → Type 0
CompletesOrNot len old new = SameJournal old new ⊎ Completes len old new

-- the drive is born
pub record Bears (old new : List ℕ) : Type 0 where
  pub ranges : (x : ℕ) → Covers new x ↔ Covers old x
  pub complete : (n : ℕ) → IsComplete new n ↔ IsComplete old n
  pub born : IsBorn new
  pub sound : IsIntact old → IsIntact new

-- born, or as before
pub record BearsOrNot (old new : List ℕ) : Type 0 where
  pub ranges : (x : ℕ) → Covers new x ↔ Covers old x
  pub complete : (n : ℕ) → IsComplete new n ↔ IsComplete old n
  pub born : IsBorn old → IsBorn new
  pub sound : IsIntact old → IsIntact new
