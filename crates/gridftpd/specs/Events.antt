-- One recorded data connection, as the events of a transfer that stores a file afresh.
use Rattle.std.specs.Prelude.{◌≡◌, ℕ, List, [], ◌∷◌, slice_get}
use Rattle.gft_eblock.specs.Words.{Arrival}
use Rattle.gft_core.specs.declared.CoreEvent.{CoreEvent}
use Rattle.gft_core.specs.declared.CoreEvent.TheVariants.{Fresh}
use Rattle.gft_core.specs.Words.{kept}
use Rattle.gft_outside.specs.Words.{arrival_events}

-- a Fresh, and then the events of the arrivals, which come on lane 0
abbrev pub events_of : List Arrival → List CoreEvent
events_of list = arrival_events 0 (Fresh ∷ []) list

-- the file is the kept bytes, and no byte more
abbrev pub IsKept : List CoreEvent → List ℕ → Type 0
IsKept events file = (x : ℕ) → kept events x ≡ slice_get file x
