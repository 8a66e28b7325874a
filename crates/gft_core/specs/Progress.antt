-- Where the last transfer stands, and the lists of events that leave it there.
use Rattle.std.specs.Prelude.{◌≡◌, ℕ, ◌≤◌, List, Some, true, false}
use Rattle.gft_eod.specs.declared.TheConstants.{MAX_EODS}
use Rattle.gft_eod.specs.Words.{Count, IsCount, IsMet}
use Rattle.gft_core.specs.declared.event.CoreEvent.{CoreEvent}
use Rattle.gft_core.specs.declared.progress.Progress.{Progress}
use Rattle.gft_core.specs.declared.progress.Progress.TheVariants.{Idle, Counting, Failed}
use Rattle.gft_core.specs.Kept.{first_some}
use Rattle.gft_core.specs.Done.{since, begun, total, eod_count, AllPermit}

-- events that leave a transfer with n EODs unbroken
pub record IsInProgress (transfer : List CoreEvent) (n : ℕ) : Type 0 where
  pub in_bounds : (1 ≤ n) × (n ≤ MAX_EODS)
  pub at_most : eod_count transfer ≤ n
  pub passes : AllPermit n transfer

-- events of a transfer that nothing failed so far, with this count of their EODs; n is the total, or any
-- number if none is known
pub record CountsTransfer (transfer : List CoreEvent) (count : Count) : Type 0 where
  pub total : total transfer ≡ count.total
  pub eods : eod_count transfer ≡ count.eods
  pub passes : (n : ℕ) → first_some count.total (Some n) ≡ Some n → AllPermit n transfer

abbrev pub Tells : List CoreEvent → Progress → Type 0
Tells events Idle = begun events ≡ false
Tells events (Counting count) = (begun events ≡ true) × CountsTransfer (since events) count
Tells events Failed = (n : ℕ) → ¬ IsInProgress (since events) n

abbrev pub IsSoundProgress : Progress → Type 0
IsSoundProgress (Counting count) = IsCount count
IsSoundProgress other = Unit {0}

-- it runs, nothing failed it, and it has as many EODs as its total
abbrev pub HasMet : Progress → Type 0
HasMet (Counting count) = IsMet count
HasMet other = ⊥
