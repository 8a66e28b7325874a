-- What a transfer asks of its lanes, and what it hands back.
use Rattle.std.specs.Prelude.{◌≡◌, ◌⊎◌, ◌↔◌, ℕ, ◌≤◌, List, [], ◌∷◌, ◌++◌, length, sum_by, slice_get}
use Rattle.std.specs.Prelude.{All, Bool, IsSome, IsTrue, MatchOption, MatchResult, Option, Result, Some, Err}
use Rattle.std.specs.Prelude.{if◌then◌else◌, nat_eq}
use Rattle.gft_base.specs.declared.TheConstants.{LIMIT}
use Rattle.gft_base.specs.Words.{Rose}
use Rattle.gft_range.specs.declared.Range.{Range}
use Rattle.gft_range.specs.Words.{HasNoGap, IsFirstGap}
use Rattle.gft_drive.specs.Words.{Sent}
use Rattle.gft_keep.specs.Words.{KeepState}
use Rattle.gft_outside.specs.Words.{LaneState, no_channels}
use Rattle.gft_pass.specs.declared.Cause.{Cause}
use Rattle.gft_pass.specs.declared.Cause.TheVariants.{DriveFailed, Hole, Memory}
use Rattle.gft_pass.specs.declared.Numbers.{Numbers}
use Rattle.gft_pass.specs.Words.{IsAt, Lane, causes, nothing}
use Rattle.gft_book.specs.Words.{IsKeptEnd, IsLaneOf, SamePass, SettledFile, Start, left_out}
use Rattle.gft_receive.specs.declared.limits.Limits.{Limits}
use Rattle.gft_receive.specs.declared.transfer.LaneWork.{LaneWork}
use Rattle.gft_receive.specs.Honest.{IsHonestLeft, TellsTotal}
use Rattle.gft_receive.specs.Moved.{Bounds, IsMoved}
use Rattle.gft_receive.specs.Telling.{IsTellers}

abbrev pub bounds_at : Limits → ℕ → Bounds
bounds_at limits lane = record { lane = lane; shift = limits.shift; idle = limits.idle }

-- a lane and its pass, before their mover runs
pub record IsLaneReady {L : Type 0} (state : L → LaneState) (sent : List ℕ → Option Sent) (start : Start)
    (limits : Limits) (work : LaneWork L) : Type 0 where
  pub unopened : (state work.lane).channels ≡ no_channels
  pub pass : IsLaneOf start work.pass
  pub fresh : work.pass.count ≡ nothing
  pub shift : limits.shift ≤ LIMIT
  pub honest : IsHonestLeft sent start limits.shift work.pass.lane (state work.lane).left
  pub total : TellsTotal start limits.shift (state work.lane).left

-- and when it has ended
pub record IsWorked {L : Type 0} (state : L → LaneState) (limits : Limits) (old new : LaneWork L)
    : Type 0 where
  pub pass : SamePass old.pass new.pass
  pub moved : IsMoved (bounds_at limits old.pass.lane) (state old.lane) (state new.lane) old.pass.count
      new.pass.count

-- on no lane a channel was opened, and if the transfer's label has a source each is honest
pub record AreReady {L : Type 0} (state : L → LaneState) (sent : List ℕ → Option Sent) (start : Start)
    (shift : ℕ) (lanes : List L) : Type 0 where
  pub unopened : All (λ lane. (state lane).channels ≡ no_channels) lanes
  pub honest : (k : ℕ) (lane : L) → slice_get lanes k ≡ Some lane
      → IsHonestLeft sent start shift k (state lane).left

-- no pass has had anything
abbrev pub AreFresh : List Lane → Type 0
AreFresh passes = (k : ℕ) (pass : Lane) → slice_get passes k ≡ Some pass → pass.count ≡ nothing

-- each lane's mover ended with such numbers
pub record MovesEach {L : Type 0} (state : L → LaneState) (limits : Limits) (lanes back : List L)
    (counts : List Numbers) : Type 0 where
  pub lanes_back : length back ≡ length lanes
  pub one_each : length counts ≡ length lanes
  pub each : (k : ℕ) (old new : L) (n : Numbers) → slice_get lanes k ≡ Some old → slice_get back k ≡ Some new
      → slice_get counts k ≡ Some n → IsMoved (bounds_at limits k) (state old) (state new) nothing n

-- the numbers of all passes have one total, and as many EODs
pub record AreMet (all : List Numbers) : Type 0 where
  pub total : ℕ
  pub told : (k : ℕ) × ((n : Numbers) × IsAt all k n × (n.total ≡ Some total))
  pub agreed : (k other : ℕ) (n : Numbers) → IsAt all k n → n.total ≡ Some other → other ≡ total
  pub met : sum_by (λ n. n.eods) all ≡ total

-- the ranges of a file without a gap
abbrev pub whole_ranges : ℕ → List Range
whole_ranges len = if nat_eq len 0 then [] else record { start = 0; end = len } ∷ []

-- the transfer ended well: a file of its passes' numbers, which for a STOR is complete up to its length
pub record EndsWell (start : Start) (all : List Numbers) (now : KeepState) (file : SettledFile) : Type 0 where
  pub of_it : file.numbers ≡ record { table = start.table; counts = all }
  pub met : AreMet all
  pub no_cause : causes all ≡ []
  pub is_whole : IsTrue file.is_whole ↔ IsSome (left_out start.how)
  pub complete : IsSome (left_out start.how) → (now.complete ≡ Some file.len) × IsKeptEnd now.ranges file.len
  pub ranges : IsSome (left_out start.how) → now.ranges ≡ whole_ranges file.len

-- the hole that the cause shows: no total was told, or there are more or fewer EODs; or a STOR's file has a
-- gap
pub record ShowsGap (start : Start) (all : List Numbers) (now : KeepState) (cause : Cause) : Type 0 where
  pub total : Option ℕ
  pub missing : Option Range
  pub is_it : cause ≡ Hole total (sum_by (λ n. n.eods) all) missing
  pub told : (k t : ℕ) (n : Numbers) → IsAt all k n → n.total ≡ Some t → total ≡ Some t
  pub told_by : (t : ℕ) → total ≡ Some t → (k : ℕ) × ((n : Numbers) × IsAt all k n × (n.total ≡ Some t))
  pub first : MatchOption missing (HasNoGap now.ranges) (IsFirstGap now.ranges)
  pub is_hole : (¬ (total ≡ Some (sum_by (λ n. n.eods) all)))
      ⊎ (IsSome (left_out start.how) × IsSome missing)

-- it ended with a cause: one pass's; or none has one, and something is missing, or the drive failed at the
-- end
abbrev pub EndsBadly : Start → List Numbers → KeepState → Cause → Type 0
EndsBadly start all now cause =
    ((causes all ≡ cause ∷ []) × (cause ≡ DriveFailed → Rose start.faults now.drive.faults))
    ⊎ ((causes all ≡ []) × (ShowsGap start all now cause
    ⊎ ((cause ≡ DriveFailed) × Rose start.faults now.drive.faults)))

-- a transfer whose movers ran; or memory was refused for them, and no lane was asked
pub record HasRun {L : Type 0} (state : L → LaneState) (limits : Limits) (start : Start) (lanes back : List L)
    (now : KeepState) (end : Result SettledFile Cause) (put_failed : Bool) : Type 0 where
  pub counts : List Numbers
  pub teller : Numbers
  pub each : MovesEach state limits lanes back counts
  pub tellers : IsTellers put_failed teller
  pub ends : MatchResult end (EndsWell start (counts ++ teller ∷ []) now)
      (EndsBadly start (counts ++ teller ∷ []) now)

abbrev pub Receives : {L : Type 0} → (L → LaneState) → Limits → Start → List L → List L → KeepState
    → Result SettledFile Cause → Bool → Type 0
Receives state limits start lanes back now end put_failed =
    HasRun state limits start lanes back now end put_failed ⊎ ((end ≡ Err Memory) × (back ≡ lanes))
