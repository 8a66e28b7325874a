-- Laws of lanes, and of blocks and their single bytes.
use Rattle.std.specs.Prelude.{◌≡◌, ℕ, List, ◌∷◌, ◌++◌, map, reverse, false}
use Rattle.gft_eblock.specs.Words.{Arrival, arrivals, data_at}
use Rattle.gft_drive.specs.Words.{Orders}
use Rattle.gft_core.specs.declared.event.CoreEvent.{CoreEvent}
use Rattle.gft_drive.specs.Words.{Orders}
use Rattle.gft_core.specs.declared.event.CoreEvent.TheVariants.{Block}
use Rattle.gft_core.specs.Words.{AllBring, FollowsPlan, IsInOrder, kept, lane_eods, lane_offsets}
use Rattle.gft_outside.specs.LaneInputs.{LaneInput, Came}
use Rattle.gft_outside.specs.LaneArrivals.{OnlyOn, gained, lane_arrivals, stream}
use Rattle.gft_outside.specs.Honest.{IsHonestLane, IsTruthful, arrival_event, arrival_events}

-- inputs that came on a channel, however cut, bring what its stream gains by them
abbrev pub CutsLaw : Type 0
CutsLaw = (shift channel : ℕ) (bytes : List ℕ) (older : List LaneInput)
    → lane_arrivals shift (reverse (map (λ value. Came channel value) bytes) ++ older)
    ≡ lane_arrivals shift older ++ gained shift (stream channel older) bytes

-- a lane on which one channel has all the bytes tells what that channel's stream tells
abbrev pub OneChannelLaw : Type 0
OneChannelLaw = (shift channel : ℕ) (inputs : List LaneInput)
    → OnlyOn channel inputs
    → lane_arrivals shift inputs ≡ arrivals shift (stream channel inputs)

-- blocks of single bytes leave the same bytes kept as one block of them all
abbrev pub PieceLaw : Type 0
PieceLaw = (lane offset : ℕ) (bytes : List ℕ) (before : List CoreEvent) (x : ℕ)
    → kept (arrival_events lane before (data_at offset bytes)) x
    ≡ kept (Block lane 0 offset bytes false ∷ before) x

-- and where they follow a plan, the one block does
abbrev pub PieceOrderLaw : Type 0
PieceOrderLaw = (orders : Orders) (lane offset value : ℕ) (bytes : List ℕ) (before : List CoreEvent)
    → IsInOrder orders (arrival_events lane before (data_at offset (value ∷ bytes)))
    → IsInOrder orders (Block lane 0 offset (value ∷ bytes) false ∷ before)

-- a lane that is honest was so at every moment
abbrev pub HonestFrontLaw : Type 0
HonestFrontLaw = (source : List ℕ) (orders : Orders) (lane : ℕ) (front later : List Arrival)
    → IsHonestLane source orders lane (front ++ later) → IsHonestLane source orders lane front

-- what a truthful lane adds to the events of a transfer brings the source's bytes
abbrev pub TruthfulLaw : Type 0
TruthfulLaw = (source : List ℕ) (lane : ℕ) (list : List Arrival) (before : List CoreEvent)
    → IsTruthful source list → AllBring source before → AllBring source (arrival_events lane before list)

-- an arrival that follows a plan behind its lane's own events does so behind those of all lanes
abbrev pub LanesLaw : Type 0
LanesLaw = (orders : Orders) (lane : ℕ) (arrival : Arrival) (own all : List CoreEvent)
    → lane_offsets lane own ≡ lane_offsets lane all → lane_eods lane own ≡ lane_eods lane all
    → FollowsPlan orders own (arrival_event lane arrival) → FollowsPlan orders all (arrival_event lane arrival)
