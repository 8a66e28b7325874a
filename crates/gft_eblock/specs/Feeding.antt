-- What a channel does with a piece of its stream.
use Rattle.std.specs.Prelude.{◌≡◌, ℕ, ◌+◌, ◌<◌, ◌≤◌, ◌⊎◌, List, [], ◌∷◌, ◌++◌, length, take}
use Rattle.std.specs.Prelude.{Option, Some, None}
use Rattle.gft_base.specs.declared.TheConstants.{LIMIT}
use Rattle.gft_eblock.specs.declared.TheConstants.{HEADER_LEN}
use Rattle.gft_eblock.specs.Arrival.{Arrival, Eof, Eod, Bad}
use Rattle.gft_eblock.specs.declared.bad_block.BadBlock.{BadBlock}
use Rattle.gft_eblock.specs.declared.event.Step.{Step}
use Rattle.gft_eblock.specs.declared.event.Event.{Event}
use Rattle.gft_eblock.specs.declared.event.Event.TheVariants as event
use Rattle.gft_eblock.specs.declared.channel.State.{State}
use Rattle.gft_eblock.specs.declared.channel.State.TheVariants.{Done, Failed}
use Rattle.gft_eblock.specs.Arrivals.{data_at}
use Rattle.gft_eblock.specs.Channel.{Reader, to_come, wanted_in, refusal_of, IsDoneState, HasFailed}

-- the arrivals that an event carries
abbrev pub event_arrivals : Option Event → List Arrival
event_arrivals None = []
event_arrivals (Some (event.Piece offset bytes)) = data_at offset bytes.now
event_arrivals (Some (event.Eof total)) = Eof total ∷ []
event_arrivals (Some event.Eod) = Eod ∷ []

-- more may come: the EOD was not told, and no block was refused
abbrev pub TakesMore : State → Type 0
TakesMore Done = ⊥
TakesMore (Failed bad) = ⊥
TakesMore _ = Unit {0}

-- the event's shape, and the channel behind it: without an event it wants a byte, and behind an EOD it is
-- done
abbrev pub IsEventOf : Option Event → State → List ℕ → Type 0
IsEventOf None state header = 0 < wanted_in state header
IsEventOf (Some (event.Piece offset bytes)) state header =
    (0 < length bytes.now) × (offset + length bytes.now ≤ LIMIT) × TakesMore state
IsEventOf (Some (event.Eof total)) state header = TakesMore state
IsEventOf (Some event.Eod) state header = IsDoneState state

-- the step takes the front of the piece, and its event carries what these bytes bring; at most an EOD waits
-- behind it, and nothing where there is none
pub record Advances (old : Reader) (piece : List ℕ) (step : Step) (new : Reader) : Type 0 where
  pub used : step.used ≤ length piece
  pub taken : new.taken ≡ old.taken + step.used
  pub carried : (later : List ℕ)
      → to_come old (take step.used piece ++ later) ≡ event_arrivals step.event ++ to_come new later
  pub event : IsEventOf step.event new.state new.header
  pub quiet : step.event ≡ None → to_come new [] ≡ []
  pub behind : (to_come new [] ≡ []) ⊎ (to_come new [] ≡ Eod ∷ [])

-- a bad block came: the last byte of its header is the last that was taken, in this piece or before it
pub record Fails (old : Reader) (piece : List ℕ) (bad : BadBlock) (new : Reader) : Type 0 where
  pub used : ℕ
  pub fits : used ≤ length piece
  pub taken : new.taken ≡ old.taken + used
  pub last : new.taken ≡ bad.place + HEADER_LEN
  pub comes : (later : List ℕ) → to_come old (take used piece ++ later) ≡ Bad (refusal_of bad) ∷ []
  pub failed : HasFailed new bad
  pub stays : (later : List ℕ) → to_come new later ≡ Bad (refusal_of bad) ∷ []
