-- What all stripes of a transfer send.
use Rattle.std.specs.Prelude.{◌≡◌, ℕ, ◌+◌, ◌<◌, true, List, [], ◌∷◌, length, slice_index_or}
use Rattle.std.specs.Prelude.{All, Result, Ok, Err, Some, vec_len}
use Rattle.gft_range.specs.declared.Range.{Range}
use Rattle.gft_range.specs.Words.{InRange}
use Rattle.gft_drive.specs.Words.{DriveState, Image}
use Rattle.gft_outside.specs.Words.{OutLaneState}
use Rattle.gft_pass.specs.declared.Cause.{Cause}
use Rattle.gft_send.specs.declared.plan.SendPlan.{SendPlan}
use Rattle.gft_send.specs.declared.transfer.Stripe.{Stripe}
use Rattle.gft_send.specs.Sending.{GoesOut, MustHave}
use Rattle.gft_send.specs.Streams.{sent_stream}
use Rattle.gft_send.specs.Stripes.{SendsLane}

-- it has the data connections of the shape, on which more may be put, and its drive has the region
pub record IsReadyStripe {D X : Type 0} (drive_state : D → DriveState) (out_state : X → OutLaneState)
    (plan : SendPlan) (stripe : Stripe D X) : Type 0 where
  pub channels : vec_len stripe.channels ≡ plan.shape.parallel
  pub is_open : All (λ out. (out_state out).is_open ≡ true) stripe.channels.items
  pub there : MustHave (drive_state stripe.drive).contents (InRange plan.region)

-- the stripe of this number was sent, and keeps how that ended
abbrev pub SendsStripe : {D X : Type 0} → (D → DriveState) → (X → OutLaneState) → SendPlan
    → List Range → ℕ → Stripe D X → Stripe D X → Type 0
SendsStripe drive_state out_state plan done number old new =
    SendsLane out_state plan done number new.sent (drive_state old.drive) (drive_state new.drive)
    old.channels.items new.channels.items

-- the drive tells its bytes, and they are this file
abbrev pub TellsFile : DriveState → List ℕ → Type 0
TellsFile drive file = (image : Image) × (drive.contents ≡ Some image) × (image.bytes ≡ file)

-- where all drives have one file, and tell it, each data connection got its stream of it; of a stripe that
-- ended with a cause, a front of that
abbrev pub CarriesFile : {D X : Type 0} → (D → DriveState) → (X → OutLaneState) → SendPlan → List Range
    → List (Stripe D X) → List (Stripe D X) → Type 0
CarriesFile {D} {X} drive_state out_state plan done old new =
    (file : List ℕ) → All (λ stripe. TellsFile (drive_state stripe.drive) file) old
    → (i k : ℕ) (d : Stripe D X) (out : X) → i < length old
    → k < length (slice_index_or old i d).channels.items
    → GoesOut (slice_index_or new i d).sent (sent_stream file plan done i k)
    (out_state (slice_index_or (slice_index_or old i d).channels.items k out))
    (out_state (slice_index_or (slice_index_or new i d).channels.items k out))

-- ---- the answer

abbrev pub add_sent : Result ℕ Cause → Result ℕ Cause → Result ℕ Cause
add_sent (Err cause) later = Err cause
add_sent (Ok count) (Ok more) = Ok (count + more)
add_sent (Ok count) (Err cause) = Err cause

-- the sum of what the stripes sent, or the first cause in their order
abbrev pub all_sent : {D X : Type 0} → List (Stripe D X) → Result ℕ Cause
all_sent [] = Ok 0
all_sent (stripe ∷ stripes) = add_sent stripe.sent (all_sent stripes)

-- the bytes of a stripe, none if it ended with a cause
abbrev pub bytes_told : Result ℕ Cause → ℕ
bytes_told (Ok count) = count
bytes_told (Err cause) = 0
