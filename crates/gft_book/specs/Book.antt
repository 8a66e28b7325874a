-- What contracts see of a Book.
use Rattle.std.specs.Prelude.{◌≡◌, ℕ, ◌+◌, ◌-◌, ◌^◌, ◌<◌, min, List, [], length, map}
use Rattle.std.specs.Prelude.{Option, Some, None, IsSome}
use Rattle.atomic_table.specs.Seated.{TableId}
use Rattle.gft_range.specs.declared.Range.{Range}
use Rattle.gft_eod.specs.Words.{IsMet}
use Rattle.gft_drive.specs.Words.{DriveState}
use Rattle.gft_keep.specs.declared.Keep.{Keep}
use Rattle.gft_keep.specs.Words.{KeepState, keep_of}
use Rattle.gft_pass.specs.declared.Cause.{Cause}
use Rattle.gft_pass.specs.Words.{AllPasses, Lane}
use Rattle.gft_book.specs.declared.mark.Mark.{Mark}
use Rattle.gft_book.specs.declared.usage.How.{How}
use Rattle.gft_book.specs.declared.usage.How.TheVariants as how
use Rattle.gft_book.specs.declared.usage.Use.{Use}
use Rattle.gft_book.specs.declared.usage.Use.TheVariants as use_of
use Rattle.gft_book.specs.declared.transfer.Transfer.{Transfer}
use Rattle.gft_book.specs.declared.transfer.Stage.{Stage}
use Rattle.gft_book.specs.declared.transfer.Stage.TheVariants.{Rest, Reading, Storing}

-- a Book over a drive of type D
pub record Seen (D : Type 0) : Type 0 where
  pub keep : Keep D
  -- what the file is used for, with the transfer that runs or failed
  pub stage : Stage
  -- the table of the transfer that was settled last
  pub last : Option TableId
  -- those of this transfer, or of the one before
  pub marks : List Mark
  -- how many bytes were booked since the last mark
  pub unmarked : ℕ
  -- how many calls found the transfer running
  pub turns : ℕ

-- the same with the state of its keep
pub record BookState : Type 1 where
  pub keep : KeepState
  pub stage : Stage
  pub last : Option TableId
  pub marks : List Mark
  pub unmarked : ℕ
  pub turns : ℕ

abbrev pub book_of : {D : Type 0} → (D → DriveState) → Seen D → BookState
book_of state book = record {
  keep = keep_of state book.keep;
  stage = book.stage;
  last = book.last;
  marks = book.marks;
  unmarked = book.unmarked;
  turns = book.turns;
}

abbrev pub usage_of : Stage → Use
usage_of Rest = use_of.Rest
usage_of (Reading readers) = use_of.Reading readers
usage_of (Storing transfer) = use_of.Storing

-- the transfer that runs, or has failed and is not settled
abbrev pub transfer_of : Stage → Option Transfer
transfer_of (Storing transfer) = Some transfer
transfer_of other = None

abbrev pub IsStoring : Stage → Type 0
IsStoring stage = IsSome (transfer_of stage)

-- the cause that is kept
abbrev pub cause_of : Stage → Option Cause
cause_of (Storing transfer) = transfer.cause
cause_of other = None

abbrev pub HasKeptCause : Stage → Type 0
HasKeptCause stage = IsSome (cause_of stage)

-- the ranges that the sender of a STOR leaves out; an ESTO has none
abbrev pub left_out : How → Option (List Range)
left_out how.Fresh = Some []
left_out (how.Resume list) = Some list.ranges
left_out how.Esto = None

abbrev pub rest_of : Stage → Option (List Range)
rest_of (Storing transfer) = left_out transfer.how
rest_of other = None

-- the transfer is there, and so
abbrev pub InTransfer : (Transfer → Type 0) → Stage → Type 0
InTransfer P (Storing transfer) = P transfer
InTransfer P other = ⊥

-- the transfer is there before and after, and changes so
abbrev pub Moving : (Transfer → Transfer → Type 0) → Stage → Stage → Type 0
Moving R (Storing old) (Storing new) = R old new
Moving R old new = ⊥

-- a transfer runs: no cause is kept
abbrev pub IsRunning : Stage → Type 0
IsRunning stage = InTransfer (λ t. t.cause ≡ None) stage

-- the transfer has a total, and as many EODs
abbrev pub HasMetTotal : Stage → Type 0
HasMetTotal stage = InTransfer (λ t. IsMet t.count) stage

-- the pass is one of the transfer; and it is a lane's, and not the teller's, which is the last
abbrev pub IsPass : Stage → Lane → Type 0
IsPass stage pass =
    InTransfer (λ t. (pass.table ≡ t.roster.table) × (pass.lane < length t.roster.counts)) stage

abbrev pub IsLanePass : Stage → Lane → Type 0
IsLanePass stage pass =
    InTransfer (λ t. (pass.table ≡ t.roster.table) × (pass.lane + 1 < length t.roster.counts)) stage

-- these are all passes of the transfer, in order
abbrev pub HasAllPasses : Stage → List Lane → Type 0
HasAllPasses stage passes = InTransfer (λ t. AllPasses t.roster.table (length t.roster.counts) passes) stage

-- a count that stands still at its type's end
abbrev pub up_to_last : ℕ → ℕ
up_to_last n = min n (2 ^ 64 - 1)

-- the ranges that each of these marks names
abbrev pub named_by : List Mark → List (List Range)
named_by marks = map (λ mark. mark.ranges.ranges) marks
