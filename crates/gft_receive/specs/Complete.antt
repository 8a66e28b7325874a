-- What whole lanes bring about: the answers that are left where nothing fails.
use Rattle.std.specs.Prelude.{◌≡◌, ℕ, ◌≤◌, List, length, reverse, slice_get}
use Rattle.std.specs.Prelude.{IfErr, IsSome, None, Option, Result, Some}
use Rattle.gft_base.specs.Words.{Rose}
use Rattle.gft_range.specs.declared.Range.{Range}
use Rattle.gft_drive.specs.Words.{Sent}
use Rattle.gft_outside.specs.Words.{AreInTurn, AreWhole, AreWholeParts, LaneInput, LaneState, no_channels}
use Rattle.gft_pass.specs.declared.Cause.{Cause}
use Rattle.gft_pass.specs.declared.Cause.TheVariants.{DriveFailed, Memory, RangesFull}
use Rattle.gft_book.specs.declared.transfer.Stage.{Stage}
use Rattle.gft_book.specs.Words.{InTransfer, SettledFile, Start, left_out}
use Rattle.gft_receive.specs.declared.limits.Limits.{Limits}

-- the drive's answers, and want of memory
abbrev pub IsExcused : Cause → Type 0
IsExcused (RangesFull kept) = Unit {0}
IsExcused Memory = Unit {0}
IsExcused DriveFailed = Unit {0}
IsExcused other = ⊥

-- the lanes have these inputs left, newest first, and none of them fails
pub record GivesEach {L : Type 0} (state : L → LaneState) (lanes back : List L)
    (lists : List (List LaneInput)) : Type 0 where
  pub many : length lists ≡ length lanes
  pub left : (k : ℕ) (lane : L) (list : List LaneInput) → slice_get lanes k ≡ Some lane
      → slice_get lists k ≡ Some list → (state lane).left ≡ Some (reverse list)
  pub in_turn : (k : ℕ) (list : List LaneInput) → slice_get lists k ≡ Some list → AreInTurn list no_channels
  pub no_fault : (k : ℕ) (old new : L) → slice_get lanes k ≡ Some old → slice_get back k ≡ Some new
      → ¬ Rose (state old).faults (state new).faults

-- a STOR whose lanes are whole
pub record RunsWhole {L : Type 0} (state : L → LaneState) (s : Sent) (rest : List Range) (lanes back : List L)
    : Type 0 where
  pub lists : List (List LaneInput)
  pub gives : GivesEach state lanes back lists
  pub whole : AreWhole s.source (s.orders rest) lists

-- an ESTO whose lanes are whole parts
pub record RunsWholeParts {L : Type 0} (state : L → LaneState) (source : Option (List ℕ)) (shift : ℕ)
    (lanes back : List L) : Type 0 where
  pub lists : List (List LaneInput)
  pub gives : GivesEach state lanes back lists
  pub whole : AreWholeParts source shift lists

-- a STOR whose label has a source, over a drive that tells its contents: whole lanes lead to Ok, but for the
-- drive's answers and want of memory
abbrev pub WholeLanesEndWell : {L : Type 0} → (L → LaneState) → (List ℕ → Option Sent) → Limits → Start
    → List L → List L → Result SettledFile Cause → Type 0
WholeLanesEndWell state sent limits start lanes back end =
    (s : Sent) (rest : List Range) → sent start.label ≡ Some s → left_out start.how ≡ Some rest
    → IsSome start.read → limits.shift ≡ 0 → 1 ≤ limits.idle → RunsWhole state s rest lanes back
    → IfErr end IsExcused

-- the bytes of a source
abbrev pub bytes_sent : Option Sent → Option (List ℕ)
bytes_sent None = None
bytes_sent (Some s) = Some s.source

-- no total was taken yet
abbrev pub IsUntold : Stage → Type 0
IsUntold stage = InTransfer (λ t. t.count.total ≡ None) stage

-- an ESTO that has just begun: whole parts lead to Ok, but for the same
abbrev pub WholePartsEndWell : {L : Type 0} → (L → LaneState) → (List ℕ → Option Sent) → Limits → Start
    → Stage → List L → List L → Result SettledFile Cause → Type 0
WholePartsEndWell state sent limits start stage lanes back end =
    left_out start.how ≡ None → IsUntold stage → 1 ≤ limits.idle
    → RunsWholeParts state (bytes_sent (sent start.label)) limits.shift lanes back → IfErr end IsExcused

abbrev pub WholeRunsEndWell : {L : Type 0} → (L → LaneState) → (List ℕ → Option Sent) → Limits → Start
    → Stage → List L → List L → Result SettledFile Cause → Type 0
WholeRunsEndWell state sent limits start stage lanes back end =
    WholeLanesEndWell state sent limits start lanes back end
    × WholePartsEndWell state sent limits start stage lanes back end
