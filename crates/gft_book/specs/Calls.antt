-- What the calls with a pass, and a mark, do to a Book and to the pass that they are lent.
use Rattle.std.specs.Prelude.{◌≡◌, ◌⊎◌, ℕ, ◌+◌, ◌<◌, List, [], ◌∷◌, ◌++◌, length, set, take, slice_get}
use Rattle.std.specs.Prelude.{Option, Some, None, IsSome, IfSome, true}
use Rattle.gft_base.specs.Words.{Rose}
use Rattle.gft_range.specs.declared.TheConstants.{MAX_ITEMS}
use Rattle.gft_drive.specs.Words.{DriveState, Orders, Sent, total_of}
use Rattle.gft_eod.specs.Words.{Count, eof_refusal, eod_refusal}
use Rattle.gft_eod.specs.declared.EodError.{EodError}
use Rattle.gft_keep.specs.declared.KeepError.{KeepError}
use Rattle.gft_keep.specs.declared.KeepError.TheVariants as keep
use Rattle.gft_keep.specs.Words.{MovesBy, Refused, Stored, StoresSome, block_of}
use Rattle.gft_core.specs.Words.{CarriesSource, byte_at}
use Rattle.gft_pass.specs.declared.Cause.{Cause}
use Rattle.gft_pass.specs.declared.Cause.TheVariants.{DriveFailed, RangesFull, Hole, TwoTotals, BadTotal}
use Rattle.gft_pass.specs.declared.Cause.TheVariants.{Memory, TooManyEods}
use Rattle.gft_pass.specs.declared.Numbers.{Numbers}
use Rattle.gft_pass.specs.Words.{IsAt, Lane, cause_of_count}
use Rattle.gft_book.specs.declared.mark.Mark.{Mark}
use Rattle.gft_book.specs.declared.transfer.Transfer.{Transfer}
use Rattle.gft_book.specs.declared.transfer.Stage.{Stage}
use Rattle.gft_book.specs.Book.{BookState, HasKeptCause, HasMetTotal, IsRunning, Moving, Seen, book_of, cause_of}
use Rattle.gft_book.specs.Book.{rest_of, up_to_last}
use Rattle.gft_book.specs.Keeping.{Keeps}

-- ---- what honest senders hand in

-- the bytes are the source's
abbrev pub IsOfSource : List ℕ → ℕ → List ℕ → Type 0
IsOfSource source offset bytes = CarriesSource source (byte_at offset bytes)

-- the block's offsets are the next ones of the lane's order
abbrev pub IsNext : Orders → Lane → ℕ → List ℕ → Type 0
IsNext orders pass offset bytes =
    (k : ℕ) → k < length bytes
    → slice_get (orders.order pass.lane) (pass.count.bytes + k) ≡ Some (offset + k)

abbrev pub SendsBlock : (List ℕ → Option Sent) → BookState → Lane → ℕ → List ℕ → Type 0
SendsBlock sent book pass offset bytes =
    IfSome (sent book.keep.drive.label) (λ s. IsOfSource s.source offset bytes
    × IfSome (rest_of book.stage) (λ rest. IsNext (s.orders rest) pass offset bytes))

abbrev pub SendsTotal : (List ℕ → Option Sent) → BookState → ℕ → Type 0
SendsTotal sent book total =
    IfSome (sent book.keep.drive.label) (λ s.
    IfSome (rest_of book.stage) (λ rest. total ≡ total_of (s.orders rest)))

-- the lane has an EOD left, and before the last one its whole order was booked
abbrev pub HasEodLeft : Orders → Lane → Type 0
HasEodLeft orders pass =
    (pass.count.eods < orders.number pass.lane)
    × (pass.count.eods + 1 ≡ orders.number pass.lane → pass.count.bytes ≡ length (orders.order pass.lane))

abbrev pub SendsEod : (List ℕ → Option Sent) → BookState → Lane → Type 0
SendsEod sent book pass =
    IfSome (sent book.keep.drive.label) (λ s.
    IfSome (rest_of book.stage) (λ rest. HasEodLeft (s.orders rest) pass))

-- ---- numbers of a pass after a call

abbrev pub more_bytes : ℕ → Numbers → Numbers
more_bytes count n = record n { bytes = up_to_last (n.bytes + count) }

abbrev pub one_eod : Numbers → Numbers
one_eod n = record n { eods = up_to_last (n.eods + 1) }

abbrev pub with_total : ℕ → Numbers → Numbers
with_total total n = record n { total = Some total }

abbrev pub with_cause : Cause → Numbers → Numbers
with_cause cause n = record n { cause = Some cause }

abbrev pub as_stopped : Numbers → Numbers
as_stopped n = record n { stopped = true }

-- ---- what becomes of the transfer

-- the pass had the numbers that the Book lists for it, and both are these now
pub record ChangesPass (numbers : Numbers) (before after : Lane) (old new : Transfer) : Type 0 where
  pub listed : IsAt old.roster.counts before.lane before.count
  pub pass : after ≡ record { table = before.table; lane = before.lane; count = numbers }
  pub roster : new.roster ≡ record {
    table = old.roster.table;
    counts = set old.roster.counts before.lane numbers;
  }
  pub how : new.how ≡ old.how

-- the transfer runs, and goes on with these numbers and this count
pub record RunsOn (numbers : Numbers) (counted : Count) (before after : Lane) (old new : Transfer)
    : Type 0 where
  pub running : old.cause ≡ None
  pub moves : ChangesPass numbers before after old new
  pub count : new.count ≡ counted
  pub cause : new.cause ≡ None

-- the transfer ran, and this call keeps the cause
pub record KeepsCause (cause : Cause) (before after : Lane) (old new : Transfer) : Type 0 where
  pub running : old.cause ≡ None
  pub moves : ChangesPass (with_cause cause before.count) before after old new
  pub count : new.count ≡ old.count
  pub kept : new.cause ≡ Some cause

-- the transfer failed before: only the pass notes it
pub record FindsFailed (before after : Lane) (old new : Transfer) : Type 0 where
  pub failed : IsSome old.cause
  pub moves : ChangesPass (as_stopped before.count) before after old new
  pub count : new.count ≡ old.count
  pub cause : new.cause ≡ old.cause

-- the pass notes that the transfer has ended, and nothing else changes
pub record NotesEnd (before after : Lane) (old new : Transfer) : Type 0 where
  pub moves : ChangesPass (as_stopped before.count) before after old new
  pub count : new.count ≡ old.count
  pub cause : new.cause ≡ old.cause

-- what each call with a pass, and a mark, leaves: this transfer, all that is kept, and the table of the last
-- one. A failed drive has its fault
pub record SameTransfer (old new : Transfer) : Type 0 where
  pub table : new.roster.table ≡ old.roster.table
  pub passes : length new.roster.counts ≡ length old.roster.counts
  pub how : new.how ≡ old.how

pub record CarriesOn (old new : BookState) : Type 0 where
  pub keeps : Keeps old.keep new.keep
  pub transfer : Moving SameTransfer old.stage new.stage
  pub last : new.last ≡ old.last
  pub failed : cause_of new.stage ≡ Some DriveFailed
      → (cause_of old.stage ≡ Some DriveFailed) ⊎ Rose old.keep.drive.faults new.keep.drive.faults

-- a call with a pass counts as a turn if it found the transfer running
abbrev pub turns_after : Option Cause → ℕ → ℕ
turns_after None turns = up_to_last (turns + 1)
turns_after (Some c) turns = turns

-- a call with a pass goes on, counts its turn and makes no mark; if the transfer had failed the keep is the
-- same
pub record CallsOn {D : Type 0} (state : D → DriveState) (old new : Seen D) : Type 0 where
  pub goes_on : CarriesOn (book_of state old) (book_of state new)
  pub turns : new.turns ≡ turns_after (cause_of old.stage) old.turns
  pub marks : new.marks ≡ old.marks
  pub untouched : HasKeptCause old.stage → new.keep ≡ old.keep

-- ---- awaits_more

-- all is as before but for what the file is used for
pub record StageOnly {D : Type 0} (old new : Seen D) : Type 0 where
  pub keep : new.keep ≡ old.keep
  pub last : new.last ≡ old.last
  pub marks : new.marks ≡ old.marks
  pub unmarked : new.unmarked ≡ old.unmarked
  pub turns : new.turns ≡ old.turns

-- the transfer runs, and not all EODs came: nothing changes
pub record AwaitsMore {D : Type 0} (before after : Lane) (old new : Seen D) : Type 0 where
  pub running : IsRunning old.stage
  pub unmet : ¬ HasMetTotal old.stage
  pub same : new ≡ old
  pub pass : after ≡ before

-- it failed, or all came, and the pass notes it
pub record FindsEnded (before after : Lane) (old new : Stage) : Type 0 where
  pub ended : HasKeptCause old ⊎ HasMetTotal old
  pub notes : Moving (NotesEnd before after) old new

-- ---- store

-- the cause as which a block's refusal is kept
abbrev pub cause_of_keep : KeepError → Cause
cause_of_keep (keep.RangesFull kept) = RangesFull kept
cause_of_keep keep.OutOfMemory = Memory
cause_of_keep keep.Failed = DriveFailed

-- the block was stored, and so many of its bytes are new
pub record TakesBlock (old new : BookState) (before after : Lane) (offset : ℕ) (bytes : List ℕ) (added : ℕ)
    : Type 0 where
  pub stored : Stored old.keep new.keep offset bytes added
  pub moves : MovesBy (StoresSome offset bytes) old.keep new.keep
  pub runs : Moving (λ t u. RunsOn (more_bytes (length bytes) before.count) t.count before after t u)
      old.stage new.stage
  pub unmarked : new.unmarked ≡ up_to_last (old.unmarked + added)

-- the keep refused the block, and this is the cause; only a failed drive changes the keep
pub record RefusesBlock (unchanged : Type 0) (old new : BookState) (before after : Lane) (offset : ℕ)
    (bytes : List ℕ) : Type 0 where
  pub error : KeepError
  pub refused : Refused unchanged old.keep new.keep (block_of offset bytes) error
  pub moves : MovesBy (StoresSome offset bytes) old.keep new.keep
  pub fails : Moving (KeepsCause (cause_of_keep error) before after) old.stage new.stage

abbrev pub StopsBlock : Type 0 → BookState → BookState → Lane → Lane → ℕ → List ℕ → Type 0
StopsBlock unchanged old new before after offset bytes =
    Moving (FindsFailed before after) old.stage new.stage
    ⊎ RefusesBlock unchanged old new before after offset bytes

-- ---- eof, eod

-- the total is taken, and kept for the pass
pub record TakesEof (total : ℕ) (before after : Lane) (old new : Transfer) : Type 0 where
  pub fits : eof_refusal old.count total ≡ None
  pub runs : RunsOn (with_total total before.count) (record { total = Some total; eods = old.count.eods })
      before after old new

-- the count refuses the total, and that is the cause
pub record RefusesEof (total : ℕ) (before after : Lane) (old new : Transfer) : Type 0 where
  pub error : EodError
  pub refused : eof_refusal old.count total ≡ Some error
  pub fails : KeepsCause (cause_of_count error) before after old new

-- the EOD is counted
pub record TakesEod (before after : Lane) (old new : Transfer) : Type 0 where
  pub fits : eod_refusal old.count ≡ None
  pub runs : RunsOn (one_eod before.count)
      (record { total = old.count.total; eods = old.count.eods + 1 }) before after old new

-- the count refuses the EOD, and that is the cause
pub record RefusesEod (before after : Lane) (old new : Transfer) : Type 0 where
  pub error : EodError
  pub refused : eod_refusal old.count ≡ Some error
  pub fails : KeepsCause (cause_of_count error) before after old new

abbrev pub StopsEof : ℕ → Lane → Lane → Transfer → Transfer → Type 0
StopsEof total before after old new = FindsFailed before after old new ⊎ RefusesEof total before after old new

abbrev pub StopsEod : Lane → Lane → Transfer → Transfer → Type 0
StopsEod before after old new = FindsFailed before after old new ⊎ RefusesEod before after old new

-- ---- fail

-- a cause that the Book can't find itself
abbrev pub IsOutside : Cause → Type 0
IsOutside DriveFailed = ⊥
IsOutside (RangesFull kept) = ⊥
IsOutside (Hole total eods missing) = ⊥
IsOutside (TwoTotals kept new) = ⊥
IsOutside (BadTotal total) = ⊥
IsOutside (TooManyEods total) = ⊥
IsOutside other = Unit {0}

-- the first cause is kept, and a later one isn't
abbrev pub KeepsFirst : Cause → Lane → Lane → Transfer → Transfer → Type 0
KeepsFirst cause before after old new =
    FindsFailed before after old new ⊎ KeepsCause cause before after old new

-- ---- mark

-- the first kept ranges, as many as a marker has room for, are marked under the next number
pub record Marked (old new : BookState) (n : ℕ) : Type 0 where
  pub mark : Mark
  pub next : n ≡ length old.marks
  pub numbered : mark.number ≡ n
  pub ranges : mark.ranges.ranges ≡ take MAX_ITEMS old.keep.ranges
  pub marks : new.marks ≡ old.marks ++ mark ∷ []
  pub unmarked : new.unmarked ≡ 0

-- a mark leaves all but the list of marks and what is unmarked
pub record MarksOnly {D : Type 0} (old new : Seen D) : Type 0 where
  pub keep : new.keep ≡ old.keep
  pub stage : new.stage ≡ old.stage
  pub last : new.last ≡ old.last
  pub turns : new.turns ≡ old.turns
