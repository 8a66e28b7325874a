-- Deliveries: transfers whose lanes bring what is sent of their label's source, and how they end.
use Rattle.std.specs.Prelude.{◌≡◌, ℕ, ◌≤◌, List, length, reverse, slice_get, All, IsSome, MatchResult}
use Rattle.std.specs.Prelude.{Bool, Option, Result, Some, false}
use Rattle.gft_base.specs.Words.{Rose}
use Rattle.gft_range.specs.declared.Range.{Range}
use Rattle.gft_drive.specs.Words.{Sent}
use Rattle.gft_keep.specs.Words.{KeepState}
use Rattle.gft_outside.specs.Words.{LaneInput, LaneState, no_channels}
use Rattle.gft_pass.specs.declared.Cause.{Cause}
use Rattle.gft_book.specs.Words.{ReadsAs, SettledFile, Start, left_out}
use Rattle.gft_send.specs.declared.SendPlan.{SendPlan}
use Rattle.gft_receive.specs.declared.Limits.{Limits}
use Rattle.gft_receive.specs.Words.{IsExcused}
use Rattle.gft_delivery.specs.Brought.{BringsStreams, SendsWhole, orders_of}

-- no lane has opened a channel, and each tells what it has left, here newest first
pub record HasLeft {L : Type 0} (state : L → LaneState) (lanes : List L) (lists : List (List LaneInput))
    : Type 0 where
  pub many : length lists ≡ length lanes
  pub unopened : All (λ lane. (state lane).channels ≡ no_channels) lanes
  pub left : (k : ℕ) (lane : L) (list : List LaneInput) → slice_get lanes k ≡ Some lane
      → slice_get lists k ≡ Some list → (state lane).left ≡ Some (reverse list)

-- a STOR of a label with a source, over a drive that tells its contents: its lanes bring what is sent of all
-- the source without the ranges of its REST list, and that is what the label's senders send for this list
pub record IsDelivery {L : Type 0} (state : L → LaneState) (sent : List ℕ → Option Sent) (start : Start)
    (lanes : List L) : Type 0 where
  pub from : Sent
  pub rest : List Range
  pub plan : SendPlan
  pub lists : List (List LaneInput)
  pub source : sent start.label ≡ Some from
  pub stor : left_out start.how ≡ Some rest
  pub tells : IsSome start.read
  pub orders : from.orders rest ≡ orders_of lists
  pub whole : SendsWhole from.source plan
  pub brings : BringsStreams from.source plan rest lists
  pub left : HasLeft state lanes lists

-- offsets stand where the sender has them, and a lane may be silent once
pub record IsPatient (limits : Limits) : Type 0 where
  pub shift : limits.shift ≡ 0
  pub idle : 1 ≤ limits.idle

-- no call of a lane failed
abbrev pub NoneFailed : {L : Type 0} → (L → LaneState) → List L → List L → Type 0
NoneFailed {L = L} state lanes back =
    (k : ℕ) (old new : L) → slice_get lanes k ≡ Some old → slice_get back k ≡ Some new
    → ¬ Rose (state old).faults (state new).faults

-- the file is the source, with its length; or the drive failed or was full, memory was refused, or a lane or a
-- put failed
abbrev pub Delivers : {L : Type 0} → (L → LaneState) → (List ℕ → Option Sent) → Start → List L → List L
    → KeepState → Result SettledFile Cause → Bool → Type 0
Delivers state sent start lanes back now end put_failed =
    (s : Sent) → sent start.label ≡ Some s
    → MatchResult end (λ file. ReadsAs s.source now × (file.len ≡ length s.source))
    (λ cause. put_failed ≡ false → NoneFailed state lanes back → IsExcused cause)
