-- When a transfer is done.
use Rattle.std.specs.Prelude.{◌≡◌, ℕ, ◌+◌, ◌<◌, ◌≤◌, ◌↔◌, List, [], ◌∷◌}
use Rattle.std.specs.Prelude.{Option, Some, None, Bool, true, false}
use Rattle.gft_eod.specs.declared.TheConstants.{MAX_EODS}
use Rattle.gft_core.specs.declared.event.CoreEvent.{CoreEvent}
use Rattle.gft_core.specs.declared.event.CoreEvent.TheVariants.{Eod, Eof, Lost, Fault, Abort, Crash}
use Rattle.gft_core.specs.declared.event.CoreEvent.TheVariants.{Fresh, Resume}
use Rattle.gft_core.specs.Kept.{first_some, Booked}

-- the events of the last transfer: those since the last Fresh, Resume or Crash
abbrev pub since : List CoreEvent → List CoreEvent
since [] = []
since (Fresh ∷ older) = []
since (Resume list ∷ older) = []
since (Crash image ∷ older) = []
since (e ∷ older) = e ∷ since older

-- there is a Fresh or a Resume, and no Crash behind it
abbrev pub begun : List CoreEvent → Bool
begun [] = false
begun (Fresh ∷ older) = true
begun (Resume list ∷ older) = true
begun (Crash image ∷ older) = false
begun (e ∷ older) = begun older

abbrev pub total_in : CoreEvent → Option ℕ
total_in (Eof total) = Some total
total_in (Crash image) = None
total_in e = None

-- the total of the first Eof
abbrev pub total : List CoreEvent → Option ℕ
total [] = None
total (e ∷ older) = first_some (total older) (total_in e)

abbrev pub eods_in : CoreEvent → ℕ
eods_in (Eod lane) = 1
eods_in (Crash image) = 0
eods_in e = 0

-- how many Eods there are
abbrev pub eod_count : List CoreEvent → ℕ
eod_count [] = 0
eod_count (e ∷ older) = eod_count older + eods_in e

-- an event that does not fail a transfer with n EODs: each Eof says n
abbrev pub Permits : ℕ → CoreEvent → Type 0
Permits n (Eof total) = total ≡ n
Permits n Lost = ⊥
Permits n Fault = ⊥
Permits n Abort = ⊥
Permits n (Crash image) = ⊥
Permits n e = Unit {0}

abbrev pub AllPermit : ℕ → List CoreEvent → Type 0
AllPermit n [] = Unit {0}
AllPermit n (e ∷ older) = AllPermit n older × Permits n e

-- the last transfer is done: it announced a total and has as many Eods, nothing failed it, and what is
-- booked has no hole
pub record Done (events : List CoreEvent) : Type 0 where
  pub begun : begun events ≡ true
  pub number : ℕ
  pub total : total (since events) ≡ Some number
  pub in_bounds : (1 ≤ number) × (number ≤ MAX_EODS)
  pub met : eod_count (since events) ≡ number
  pub passes : AllPermit number (since events)
  pub whole : (end : ℕ) × ((x : ℕ) → Booked events x ↔ (x < end))
