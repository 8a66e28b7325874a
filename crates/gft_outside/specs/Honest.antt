-- Truthful and honest lanes: what the arrivals of a lane are to a source and to the plan of its transfer.
use Rattle.std.specs.Prelude.{◌≡◌, ℕ, List, [], ◌∷◌, false, slice_get, Some}
use Rattle.gft_eblock.specs.Words.{Arrival, At, Eof, Eod, Bad}
use Rattle.gft_core.specs.declared.event.CoreEvent.{CoreEvent}
use Rattle.gft_core.specs.declared.event.CoreEvent.TheVariants as event
use Rattle.gft_core.specs.Words.{IsInOrder}
use Rattle.gft_drive.specs.Words.{Orders}

-- each byte that arrives is the source's at its offset
abbrev pub IsTruthful : List ℕ → List Arrival → Type 0
IsTruthful source [] = Unit {0}
IsTruthful source (At offset value ∷ list) = (slice_get source offset ≡ Some value) × IsTruthful source list
IsTruthful source (Eof total ∷ list) = IsTruthful source list
IsTruthful source (Eod ∷ list) = IsTruthful source list
IsTruthful source (Bad refusal ∷ list) = IsTruthful source list

-- no header is refused
abbrev pub HasNoBad : List Arrival → Type 0
HasNoBad [] = Unit {0}
HasNoBad (At offset value ∷ list) = HasNoBad list
HasNoBad (Eof total ∷ list) = HasNoBad list
HasNoBad (Eod ∷ list) = HasNoBad list
HasNoBad (Bad refusal ∷ list) = ⊥

-- what an arrival on a lane is to the transfer: a byte is a block of one byte, and a bad header loses the
-- channel. No definition reads a block's channel, so it is 0
abbrev pub arrival_event : ℕ → Arrival → CoreEvent
arrival_event lane (At offset value) = event.Block lane 0 offset (value ∷ []) false
arrival_event lane (Eof total) = event.Eof total
arrival_event lane Eod = event.Eod lane
arrival_event lane (Bad refusal) = event.Lost

-- the arrivals' events behind those of before, the newest first
abbrev pub arrival_events : ℕ → List CoreEvent → List Arrival → List CoreEvent
arrival_events lane before [] = before
arrival_events lane before (arrival ∷ later) = arrival_events lane (arrival_event lane arrival ∷ before) later

-- the arrivals of a lane are those of an honest sender, so far: they bring the source's bytes, in the lane's
-- order, no EOD more than its number, the last of them behind the whole order, and no EOF but of the total
pub record IsHonestLane (source : List ℕ) (orders : Orders) (lane : ℕ) (list : List Arrival) : Type 0 where
  pub truthful : IsTruthful source list
  pub no_refusal : HasNoBad list
  pub in_order : IsInOrder orders (arrival_events lane [] list)
