-- How a mover stands to what it took, and what a turn of it does.
use Rattle.std.specs.Prelude.{◌≡◌, ◌⊎◌, ℕ, ◌+◌, ◌<◌, ◌≤◌, ◌↔◌, List, [], ◌∷◌, ◌++◌, length}
use Rattle.std.specs.Prelude.{Option, Some, None, Result, Ok, Err, IsSome, reverse}
use Rattle.gft_base.specs.Words.{Rose}
use Rattle.gft_drive.specs.Words.{Sent}
use Rattle.gft_eblock.specs.declared.TheConstants.{MAX_BYTES}
use Rattle.gft_base.specs.declared.TheConstants.{LIMIT}
use Rattle.gft_eblock.specs.declared.Event.{Event}
use Rattle.gft_eblock.specs.declared.channel.State.{State}
use Rattle.gft_eblock.specs.declared.channel.State.TheVariants.{Done as ReaderDone}
use Rattle.gft_eblock.specs.declared.Event.TheVariants.{Piece, Eof, Eod}
use Rattle.gft_eblock.specs.Words.{Arrival, Bad, IsDone, Reader, eods, refusal_of, to_come}
use Rattle.gft_outside.specs.Words.{Gives, HasNoBad, LaneInput, LaneState, byte_count, channels_after, gained}
use Rattle.gft_outside.specs.Words.{lane_arrivals, no_channels, stream}
use Rattle.gft_pass.specs.declared.Numbers.{Numbers}
use Rattle.gft_pass.specs.Words.{Lane, nothing}
use Rattle.gft_book.specs.Words.{IsOutside, Learns, SamePass, Start}
use Rattle.gft_receive.specs.declared.mover.Mover.{Mover}
use Rattle.gft_receive.specs.declared.halt.Halt.{Halt}
use Rattle.gft_receive.specs.declared.halt.Halt.TheVariants.{Done, Stopped, Failed}
use Rattle.gft_receive.specs.declared.halt.Unfed.{Unfed}
use Rattle.gft_receive.specs.declared.halt.Unfed.TheVariants.{Stop, Refused}
use Rattle.gft_receive.specs.Causes.{first_cause, silences}
use Rattle.gft_receive.specs.Booking.{IsBooksCause, numbers_after}
use Rattle.gft_receive.specs.Moved.{Bounds, GaveAll, IsLanesCause}
use Rattle.gft_receive.specs.Honest.{MayBring}
use Rattle.gft_receive.specs.Table.{HoldsChannels}

abbrev pub bounds_of : Mover → Bounds
bounds_of m = record { lane = m.lane; shift = m.channels.shift; idle = m.patience.idle }

-- the mover took these inputs, and none of them showed a cause
pub record StandsBehind (inputs : List LaneInput) (m : Mover) : Type 0 where
  pub channels : HoldsChannels inputs m.channels
  pub taken : m.taken ≡ byte_count inputs
  pub short : byte_count inputs < MAX_BYTES
  pub quiet : m.patience.quiets ≤ silences inputs
  pub none : first_cause m.lane m.channels.shift inputs ≡ None

-- all is booked
pub record IsFedWhole (old new : Reader) (bytes : List ℕ) (before after : Lane) : Type 0 where
  pub carried : (later : List ℕ) → to_come old (bytes ++ later) ≡ to_come old bytes ++ to_come new later
  pub taken : (IsDone new → ⊥) → new.taken ≡ old.taken + length bytes
  pub most : new.taken ≤ old.taken + length bytes
  pub ended : IsDone new ↔ (IsDone old ⊎ (0 < eods (to_come old bytes)))
  pub sound : HasNoBad (to_come old bytes)
  pub same : SamePass before after
  pub numbers : after.count ≡ numbers_after (to_come old bytes) before.count

-- why not
abbrev pub UnfedFor : Unfed → List Arrival → Numbers → Numbers → Type 0
UnfedFor Stop rest had after = Learns (IsBooksCause rest) had after
UnfedFor (Refused bad) rest had after = (rest ≡ Bad (refusal_of bad) ∷ []) × (after ≡ had)

-- the Book refused an arrival or had ended; or all is booked up to a header that is refused
pub record IsUnfed (old : Reader) (bytes : List ℕ) (before after : Lane) (why : Unfed) : Type 0 where
  pub booked : List Arrival
  pub rest : List Arrival
  pub front : to_come old bytes ≡ booked ++ rest
  pub sound : HasNoBad booked
  pub same : SamePass before after
  pub so : UnfedFor why rest (numbers_after booked before.count) after.count

-- how a turn ends behind all these inputs, with the rest of what they brought not booked
abbrev pub TurnEnds : {A : Type 0} → Bounds → List LaneInput → List Arrival → Type 0 → Type 0 → Mover
    → Result A Halt → Numbers → Numbers → Type 0
TurnEnds bounds all rest rose done now (Ok _) had after =
    (rest ≡ []) × (after ≡ had) × StandsBehind all now × (bounds_of now ≡ bounds)
TurnEnds bounds all rest rose done now (Err Done) had after =
    (rest ≡ []) × (after ≡ had) × done × (first_cause bounds.lane bounds.shift all ≡ None)
TurnEnds bounds all rest rose done now (Err Stopped) had after = Learns (IsBooksCause rest) had after
TurnEnds bounds all rest rose done now (Err (Failed cause)) had after =
    (after ≡ had) × IsLanesCause bounds all rose cause × IsOutside cause

-- a turn that takes one input and books nothing
abbrev pub TakesInput : {A : Type 0} → LaneInput → Mover → Mover → Result A Halt → Type 0
TakesInput input old new result =
    (inputs : List LaneInput) → StandsBehind inputs old → (n : Numbers)
    → TurnEnds (bounds_of old) (input ∷ inputs) [] ⊥ ⊥ new result n n

-- a turn took these inputs more
pub record Turned {A : Type 0} (bounds : Bounds) (inputs given : List LaneInput) (rose done : Type 0)
    (now : Mover) (before after : Lane) (result : Result A Halt) : Type 0 where
  pub booked : List Arrival
  pub rest : List Arrival
  pub front : lane_arrivals bounds.shift (given ++ inputs)
      ≡ lane_arrivals bounds.shift inputs ++ (booked ++ rest)
  pub same : SamePass before after
  pub ends : TurnEnds bounds (given ++ inputs) rest rose done now result
      (numbers_after booked before.count) after.count

-- a piece is a block
abbrev pub IsSized : Event → Type 0
IsSized (Piece offset bytes) = (0 < length bytes.now) × (offset + length bytes.now ≤ LIMIT)
IsSized (Eof total) = Unit {0}
IsSized Eod = Unit {0}

-- what these bytes of a channel bring next is honest
abbrev pub FeedsHonest : (List ℕ → Option Sent) → Start → Mover → Lane → ℕ → List ℕ → Type 0
FeedsHonest sent start m pass channel bytes =
    (inputs : List LaneInput) × StandsBehind inputs m
    × MayBring sent start pass.lane pass.count (gained m.channels.shift (stream channel inputs) bytes)

-- if the transfer's label has a source or its total is known, the lane tells what it has left, and all that
-- it brings may be booked
abbrev pub TellsHonest : (List ℕ → Option Sent) → Start → ℕ → ℕ → List LaneInput → LaneState
    → Type 0
TellsHonest sent start shift lane inputs state =
    IsSome (sent start.label) ⊎ IsSome start.total
    → (left : List LaneInput) × (state.left ≡ Some left)
    × MayBring sent start lane nothing (lane_arrivals shift (reverse left ++ inputs))

-- a mover stands behind its lane, and all that it took is booked
pub record AwaitsBy (sent : List ℕ → Option Sent) (start : Start) (state : LaneState) (m : Mover)
    (pass : Lane) (inputs : List LaneInput) : Type 0 where
  pub stands : StandsBehind inputs m
  pub channels : state.channels ≡ channels_after inputs no_channels
  pub booked : pass.count ≡ numbers_after (lane_arrivals m.channels.shift inputs) nothing
  pub honest : TellsHonest sent start m.channels.shift pass.lane inputs state

abbrev pub Awaits : (List ℕ → Option Sent) → Start → LaneState → Mover → Lane → Type 0
Awaits sent start state m pass =
    (inputs : List LaneInput) × AwaitsBy sent start state m pass inputs

-- a turn took what the lane gave
abbrev pub TurnedBy : {A : Type 0} → Bounds → List LaneInput → LaneState → LaneState → Mover → Lane → Lane
    → Result A Halt → Type 0
TurnedBy bounds inputs old new now before after result =
    (given : List LaneInput) × Gives given old new × (old.faults ≤ new.faults)
    × Turned bounds inputs given (Rose old.faults new.faults) (GaveAll new) now before after result

-- between two events of a piece: these are booked, and what is left brings what they didn't
pub record IsFeeding (sent : List ℕ → Option Sent) (start : Start) (first : Reader) (bytes : List ℕ)
    (before : Lane) (reader : Reader) (left : List ℕ) (pass : Lane) : Type 0 where
  pub booked : List Arrival
  pub carried : (later : List ℕ) → to_come first (bytes ++ later) ≡ booked ++ to_come reader (left ++ later)
  pub sound : HasNoBad booked
  pub taken : (IsDone reader → ⊥) → reader.taken + length left ≡ first.taken + length bytes
  pub most : reader.taken + length left ≤ first.taken + length bytes
  pub ended : IsDone reader ↔ (IsDone first ⊎ (0 < eods booked))
  pub same : SamePass before pass
  pub numbers : pass.count ≡ numbers_after booked before.count
  pub honest : MayBring sent start pass.lane pass.count (to_come reader left)

-- how many turns of a feed are left at most
abbrev pub undone : State → ℕ
undone ReaderDone = 0
undone other = 1

-- what a mover knows between two turns, since its lane and its pass were these
pub record HasMoved (sent : List ℕ → Option Sent) (start : Start) (given : Bounds) (old state : LaneState)
    (before : Lane) (m : Mover) (pass : Lane) : Type 0 where
  pub inputs : List LaneInput
  pub gives : Gives inputs old state
  pub later : old.faults ≤ state.faults
  pub awaits : AwaitsBy sent start state m pass inputs
  pub same : SamePass before pass
  pub bounds : bounds_of m ≡ given
