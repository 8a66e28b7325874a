-- A whole file that is sent, and lanes that bring its streams, however they are cut and dealt out.
use Rattle.std.specs.Prelude.{◌≡◌, ℕ, ◌*◌, ◌≤◌, List, length, slice_get, sum_by, Option, Some, None, []}
use Rattle.gft_base.specs.declared.TheConstants.{LIMIT}
use Rattle.gft_range.specs.declared.Range.{Range}
use Rattle.gft_eblock.specs.Words.{eods}
use Rattle.gft_layout.specs.declared.Shape.{Shape}
use Rattle.gft_layout.specs.Words.{IsOwner, IsShape, Owner}
use Rattle.gft_core.specs.Words.{lane_offsets}
use Rattle.gft_drive.specs.Words.{Orders}
use Rattle.gft_outside.specs.Words.{AreInTurn, IsSmooth, LaneInput, arrival_events, channels_after}
use Rattle.gft_outside.specs.Words.{lane_arrivals, no_channels, stream}
use Rattle.gft_send.specs.declared.SendPlan.{SendPlan}
use Rattle.gft_send.specs.Words.{sent_stream}

-- all of a file is to be sent, that the product can take
pub record SendsWhole (file : List ℕ) (plan : SendPlan) : Type 0 where
  pub bound : length file ≤ LIMIT
  pub start : plan.region.start ≡ 0
  pub end : plan.region.end ≡ length file
  pub shape : IsShape plan.shape

-- ---- which lane carries which data connection

-- a channel of a lane carries this data connection of the sender
pub record IsCarried (deal : List (List Owner)) (owner : Owner) : Type 0 where
  pub lane : ℕ
  pub owners : List Owner
  pub channel : ℕ
  pub at_lane : slice_get deal lane ≡ Some owners
  pub at_channel : slice_get owners channel ≡ Some owner

-- for each lane the data connections that its channels carry. Each of the shape's is among them; and there
-- are no more of them, so each stands there once
pub record DealsOut (shape : Shape) (deal : List (List Owner)) : Type 0 where
  pub each : (owner : Owner) → IsOwner shape owner → IsCarried deal owner
  pub many : sum_by (λ owners. length owners) deal ≡ shape.stripes * shape.parallel

-- ---- what the lanes bring

-- all that comes on a lane, newest first: each of its channels brings the stream of its data connection, cut
-- in any way, between whatever the others bring, and nothing holds it up
pub record CarriesStreams (file : List ℕ) (plan : SendPlan) (done : List Range) (owners : List Owner)
    (inputs : List LaneInput) : Type 0 where
  pub in_turn : AreInTurn inputs no_channels
  pub smooth : IsSmooth inputs
  pub opened : (channels_after inputs no_channels).opened ≡ length owners
  pub streams : (channel : ℕ) (owner : Owner) → slice_get owners channel ≡ Some owner
      → stream channel inputs ≡ sent_stream file plan done owner.stripe owner.channel

-- the lanes together bring what is sent of the file, without the offsets that are done
pub record BringsStreams (file : List ℕ) (plan : SendPlan) (done : List Range)
    (lists : List (List LaneInput)) : Type 0 where
  pub deal : List (List Owner)
  pub many : length deal ≡ length lists
  pub dealt : DealsOut plan.shape deal
  pub lanes : (k : ℕ) (owners : List Owner) (inputs : List LaneInput) → slice_get deal k ≡ Some owners
      → slice_get lists k ≡ Some inputs → CarriesStreams file plan done owners inputs

-- ---- what each lane sends, as the receiver counts it

-- the offsets of a lane's bytes, in the order in which they come
abbrev pub order_on : ℕ → Option (List LaneInput) → List ℕ
order_on lane None = []
order_on lane (Some inputs) = lane_offsets lane (arrival_events lane [] (lane_arrivals 0 inputs))

abbrev pub eods_of : Option (List LaneInput) → ℕ
eods_of None = 0
eods_of (Some inputs) = eods (lane_arrivals 0 inputs)

abbrev pub orders_of : List (List LaneInput) → Orders
orders_of lists = record {
  lanes = length lists;
  order = λ lane. order_on lane (slice_get lists lane);
  number = λ lane. eods_of (slice_get lists lane);
}
