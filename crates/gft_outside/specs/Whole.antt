-- Whole lanes: all that the lanes of a transfer give up to their `Done`, with nothing that holds it up.
use Rattle.std.specs.Prelude.{◌≡◌, ℕ, ◌+◌, ◌<◌, ◌≤◌, List, [], ◌∷◌, ◌++◌, length, slice_get}
use Rattle.std.specs.Prelude.{Option, Some, IsSome, IfSome}
use Rattle.gft_eblock.specs.Words.{arrivals, eods, totals}
use Rattle.gft_eblock.specs.declared.TheConstants.{MAX_BYTES}
use Rattle.gft_core.specs.Words.{lane_offsets}
use Rattle.gft_drive.specs.Words.{Orders, sum_below, total_of}
use Rattle.gft_outside.specs.declared.TheConstants.{MAX_LIVE, MAX_OPENED}
use Rattle.gft_outside.specs.LaneInputs.{LaneInput, Came, Silence}
use Rattle.gft_outside.specs.LaneInputs.{channels_after, no_channels}
use Rattle.gft_outside.specs.LaneArrivals.{stream, lane_arrivals}
use Rattle.gft_outside.specs.Totals.{AreAgreed, first_of}
use Rattle.gft_outside.specs.Honest.{IsHonestLane, IsTruthful, HasNoBad, arrival_events}

-- how many bytes came
abbrev pub byte_count : List LaneInput → ℕ
byte_count [] = 0
byte_count (Came channel value ∷ older) = byte_count older + 1
byte_count (input ∷ older) = byte_count older

abbrev pub IsNoSilence : LaneInput → Type 0
IsNoSilence Silence = ⊥
IsNoSilence input = Unit {0}

-- nothing holds the lane up: it is never silent, and its channels and bytes stay within the limits
abbrev pub IsSmooth : List LaneInput → Type 0
IsSmooth [] = Unit {0}
IsSmooth (input ∷ older) =
    IsSmooth older
    × IsNoSilence input
    × (length (channels_after (input ∷ older) no_channels).live ≤ MAX_LIVE)
    × ((channels_after (input ∷ older) no_channels).opened ≤ MAX_OPENED)
    × (byte_count (input ∷ older) < MAX_BYTES)

-- each channel that gave a byte gave its EOD
abbrev pub EndsItsChannels : ℕ → List LaneInput → Type 0
EndsItsChannels shift inputs =
    (channel : ℕ) → 0 < length (stream channel inputs) → eods (arrivals shift (stream channel inputs)) ≡ 1

-- all that came on a lane of honest senders: its whole order and all its EODs
pub record IsWholeLane (source : List ℕ) (orders : Orders) (lane : ℕ)
    (inputs : List LaneInput) : Type 0 where
  pub smooth : IsSmooth inputs
  pub ends : EndsItsChannels 0 inputs
  pub honest : IsHonestLane source orders lane (lane_arrivals 0 inputs)
  pub order : lane_offsets lane (arrival_events lane [] (lane_arrivals 0 inputs)) ≡ orders.order lane
  pub number : eods (lane_arrivals 0 inputs) ≡ orders.number lane

-- the totals that the lanes announce, and the EODs that come on them
abbrev pub all_totals : ℕ → List (List LaneInput) → List ℕ
all_totals shift [] = []
all_totals shift (inputs ∷ lanes) = totals (lane_arrivals shift inputs) ++ all_totals shift lanes

abbrev pub all_eods : ℕ → List (List LaneInput) → ℕ
all_eods shift [] = 0
all_eods shift (inputs ∷ lanes) = eods (lane_arrivals shift inputs) + all_eods shift lanes

-- the lanes of a STOR: those of its plan, each whole, and one of them announces the total
pub record AreWhole (source : List ℕ) (orders : Orders)
    (lanes : List (List LaneInput)) : Type 0 where
  pub each : (k : ℕ) → (inputs : List LaneInput) → slice_get lanes k ≡ Some inputs
      → IsWholeLane source orders k inputs
  pub announced : IsSome (first_of (all_totals 0 lanes))
  pub sum : sum_below orders.number (length lanes) ≡ total_of orders

-- what a lane of an ESTO gives: bytes of the source, if there is one
pub record IsWholePart (source : Option (List ℕ)) (shift : ℕ) (inputs : List LaneInput) : Type 0 where
  pub smooth : IsSmooth inputs
  pub ends : EndsItsChannels shift inputs
  pub truthful : IfSome source (λ s. IsTruthful s (lane_arrivals shift inputs))
  pub no_refusal : HasNoBad (lane_arrivals shift inputs)

-- the lanes of an ESTO: they bring one total, of 1 to 1,024, and as many EODs
pub record AreWholeParts (source : Option (List ℕ)) (shift : ℕ) (lanes : List (List LaneInput)) : Type 0 where
  pub each : (k : ℕ) → (inputs : List LaneInput) → slice_get lanes k ≡ Some inputs
      → IsWholePart source shift inputs
  pub total : ℕ
  pub announced : first_of (all_totals shift lanes) ≡ Some total
  pub agreed : AreAgreed (all_totals shift lanes)
  pub met : all_eods shift lanes ≡ total
