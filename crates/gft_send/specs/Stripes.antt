-- What a stripe sends, and what all stripes of a transfer send.
use Rattle.std.specs.Prelude.{◌≡◌, ◌≢◌, ℕ, ◌+◌, ◌-◌, ◌<◌, true, List, [], ◌∷◌, length, slice_index_or}
use Rattle.std.specs.Prelude.{All, IfErr, IfOk, OnOk, Option, Result}
use Rattle.gft_range.specs.declared.Range.{Range}
use Rattle.gft_range.specs.Words.{InRange}
use Rattle.gft_layout.specs.Words.{IsLayout, IsShape, plan_of}
use Rattle.gft_drive.specs.Words.{DriveState, Image, Unchanged, sum_below}
use Rattle.gft_outside.specs.Words.{OutLaneState}
use Rattle.gft_pass.specs.declared.Cause.{Cause}
use Rattle.gft_pass.specs.declared.Cause.TheVariants.{DriveFailed, LinkFailed}
use Rattle.gft_send.specs.declared.plan.SendPlan.{SendPlan}
use Rattle.gft_send.specs.Streams.{sent_stream}
use Rattle.gft_send.specs.Sending.{CountsFaults, GoesOut, HasPlaces, HasRest, IsSendCause, MayHave}

-- its layout and its shape are such that there are plans
pub record IsSendPlan (plan : SendPlan) : Type 0 where
  pub shape : IsShape plan.shape
  pub layout : IsLayout plan.layout

-- what one data connection sends
abbrev pub channel_plan : SendPlan → List Range → ℕ → ℕ → List Range
channel_plan plan done stripe channel = plan_of plan.region done plan.layout plan.shape stripe channel

-- how many bytes of data that is
abbrev pub bytes_in : List Range → ℕ
bytes_in [] = 0
bytes_in (r ∷ rs) = (r.end - r.start) + bytes_in rs

-- and how many a stripe sends
abbrev pub stripe_bytes : SendPlan → List Range → ℕ → ℕ
stripe_bytes plan done stripe =
    sum_below (λ channel. bytes_in (channel_plan plan done stripe channel)) plan.shape.parallel

-- each data connection has its stream of one file, which the drive may have, or the front of it that went out
-- until the stripe ended
pub record CarriesStripe {X T E : Type 0} (state : X → OutLaneState) (contents : Option Image)
    (plan : SendPlan) (done : List Range) (stripe : ℕ) (result : Result T E) (old new : List X)
    : Type 0 where
  pub file : List ℕ
  pub may : MayHave contents file
  pub whole : HasPlaces (InRange plan.region) file
  pub streams : (k : ℕ) (d : X) → k < length old
      → GoesOut result (sent_stream file plan done stripe k) (state (slice_index_or old k d))
      (state (slice_index_or new k d))

-- one count of faults rose if the stripe ended by a data connection, and all others are as they were
pub record CountsLaneFaults {X T : Type 0} (state : X → OutLaneState) (result : Result T Cause)
    (old new : List X) : Type 0 where
  pub one : ℕ
  pub within : one < length old
  pub counts : (d : X) → CountsFaults LinkFailed result (state (slice_index_or old one d)).faults
      (state (slice_index_or new one d)).faults
  pub others : (k : ℕ) (d : X) → k < length old → k ≢ one
      → (state (slice_index_or new k d)).faults ≡ (state (slice_index_or old k d)).faults

-- a planned range of the stripe, of which some is left
abbrev pub IsLeftOf : SendPlan → List Range → ℕ → Range → Type 0
IsLeftOf plan done stripe rest =
    (channel : ℕ) × (channel < plan.shape.parallel) × HasRest (channel_plan plan done stripe channel) rest

pub record SendsLane {X : Type 0} (state : X → OutLaneState) (plan : SendPlan) (done : List Range)
    (stripe : ℕ) (result : Result ℕ Cause) (drive looked : DriveState) (old new : List X) : Type 0 where
  -- the stripe keeps its data connections
  pub many : length new ≡ length old
  pub carries : CarriesStripe state drive.contents plan done stripe result old new
  pub is_open : OnOk result (All (λ out. (state out).is_open ≡ true) new)
  pub count : IfOk result (λ n. n ≡ stripe_bytes plan done stripe)
  pub unchanged : Unchanged drive looked
  pub drive_faults : CountsFaults DriveFailed result drive.faults looked.faults
  pub lane_faults : CountsLaneFaults state result old new
  pub cause : IfErr result (IsSendCause drive.contents (IsLeftOf plan done stripe))
