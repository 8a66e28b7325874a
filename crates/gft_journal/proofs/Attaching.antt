-- What the head and the slots of a part say of it.
use Rattle.std.proofs.Common.{◌≡◌, ◌≢◌, ◌↔◌, ℕ, ◌<◌, Bool, IsTrue, List, length, Some, Result, Ok, Err, sym, ◌∙◌, subst, arith}
use Rattle.std.specs.Result.{IfOk}
use Rattle.gft_range.specs.Words.{HasOffset, IsNormal}
use Rattle.gft_drive.specs.Words.{Covers, DriveState, IsBorn, IsComplete, IsIntact, IsLawful, IsSynced, Unchanged, Elapses, Leaves, Reads, Same, Anything, bank_at, selected, slot}
use Rattle.gft_drive.specs.declared.Part.TheVariants.{Bytes, Ranges}
use Rattle.gft_drive.specs.declared.TheConstants.{MAX_RANGES}
use Rattle.gft_drive.proofs.Lemmas.{bytes_still_synced, synced_looked}
use Rattle.gft_journal.specs.Attach.{FindsIn, FoundOn, IsJournalHead}
use Rattle.gft_journal.specs.Damage.{FirstBadSlot, HasTooMany}
use Rattle.gft_journal.specs.Journal.{Matches}
use Rattle.gft_journal.specs.Scan.{IsBadAt, IsScan}
use Rattle.gft_journal.specs.Slot.{bank_number}
use Rattle.gft_journal.specs.declared.damage.AttachError.{AttachError}
use Rattle.gft_journal.specs.declared.journal.Journal.{Journal}
use Rattle.gft_journal.specs.declared.opening.Found.{Found}
use Rattle.gft_journal.specs.declared.scan.Scan.{Scan}

pub bad_slot : (xs : List ℕ) (number : ℕ) (is_born : Bool) (i : ℕ) → IsJournalHead number is_born xs → i < 65534 → IsBadAt xs (bank_at number) i → FirstBadSlot xs (selected xs) i
bad_slot xs number is_born i head lt bad =
    let here = subst (λ (b : ℕ). IsBadAt xs (bank_at b) i) head.bank bad in
    record { within = lt; is_open = here.is_open; bad = here.bad; before = here.before }

module _ (xs : List ℕ) (number : ℕ) (is_born : Bool) (scan : Scan) (head : IsJournalHead number is_born xs) (is : IsScan xs (bank_at number) 65534 scan) where
  here : IsScan xs (bank_at (selected xs)) 65534 scan
  here = subst (λ (b : ℕ). IsScan xs (bank_at b) 65534 scan) head.bank is

  pub intact : IsIntact xs
  intact = record { size = head.size; version = head.version; slots = λ i lt gate. here.fit i lt gate }

  pub covers : (x : ℕ) → HasOffset scan.set.ranges x ↔ Covers xs x
  covers x = here.set x

  pub completed : (len : ℕ) → (scan.complete ≡ Some len) ↔ IsComplete xs len
  completed len = here.complete len

  pub too_many : (n : ℕ) → IsNormal scan.set.ranges → n ≡ length scan.set.ranges → MAX_RANGES < length scan.set.ranges → HasTooMany xs n
  too_many n normal count many = record { intact = intact; set = scan.set.ranges; normal = normal; offsets = covers; count = count; many = many }

  pub matches_scan : (journal : Journal) → bank_number journal.bank ≡ number → journal.born ≡ is_born → journal.next ≡ scan.next → Matches journal xs
  matches_scan journal bank born next = record {
    sound = intact;
    bank = sym (bank ∙ head.bank);
    born = subst (λ (b : Bool). IsTrue b ↔ IsBorn xs) (sym born) head.born;
    shut = λ i above below. subst (λ (b : ℕ). (slot xs b i).gate ≢ 1) (sym bank) (is.shut i (omega (arith, above, next)) below);
  }

-- a drive whose parts were synced, and then read
pub found_on : (result : Result Found AttachError) (old first second new : DriveState) → IsLawful second → IsLawful new
    → first.contents ≡ old.contents → second.contents ≡ first.contents → IsSynced Bytes first → IsSynced Ranges second
    → Leaves Ranges Same first second → Reads Ranges Anything first second → Elapses first second → Unchanged second new
    → IfOk result (FindsIn second) → IfOk result (FoundOn old new)
found_on (Err e) old first second new lawful_second lawful_new read reads bytes ranges leaves other time looks found = tt
found_on (Ok f) old first second new lawful_second lawful_new read reads bytes ranges leaves other time looks found = record {
  read = looks.read ∙ reads ∙ read;
  finds = λ image told. found.finds image (reads ∙ read ∙ told);
  few = found.few;
  in_limit = found.in_limit;
  end = found.end;
  stands = record {
    matches = λ image told. found.matches image (sym looks.read ∙ told);
    synced = synced_looked Ranges second new lawful_new looks ranges;
  };
  synced = synced_looked Bytes second new lawful_new looks (bytes_still_synced first second Same Anything lawful_second bytes leaves other time);
}
