-- What a lock knows of the Book in it.
use Rattle.std.specs.Prelude.{◌≡◌, ◌⊎◌, ℕ, ◌+◌, ◌<◌, ◌≤◌, List, [], ◌++◌, length}
use Rattle.std.specs.Prelude.{IfSome, Option, Some, None, IsSome}
use Rattle.atomic_table.specs.Seated.{TableId}
use Rattle.gft_base.specs.Words.{Rose}
use Rattle.gft_range.specs.declared.Range.{Range}
use Rattle.gft_range.specs.Words.{HasOffset}
use Rattle.gft_drive.specs.Words.{Image, Sent, total_of}
use Rattle.gft_eod.specs.Words.{Count}
use Rattle.gft_eod.specs.declared.EodError.{EodError}
use Rattle.gft_eod.specs.declared.TheConstants.{MAX_EODS}
use Rattle.gft_keep.specs.Words.{KeepState}
use Rattle.gft_core.specs.Words.{held}
use Rattle.gft_herald.specs.Words.{LineId, Pushed}
use Rattle.gft_pass.specs.declared.Cause.{Cause}
use Rattle.gft_pass.specs.declared.Cause.TheVariants.{BadTotal, DriveFailed, TooManyEods, TwoTotals}
use Rattle.gft_pass.specs.declared.Numbers.{Numbers}
use Rattle.gft_pass.specs.Words.{Lane, cause_of_count}
use Rattle.gft_book.specs.declared.mark.Mark.{Mark}
use Rattle.gft_book.specs.declared.usage.How.{How}
use Rattle.gft_book.specs.declared.usage.How.TheVariants.{Esto}
use Rattle.gft_book.specs.declared.transfer.Transfer.{Transfer}
use Rattle.gft_book.specs.declared.transfer.Stage.{Stage}
use Rattle.gft_book.specs.declared.transfer.Stage.TheVariants.{Storing}
use Rattle.gft_book.specs.Book.{BookState, InTransfer, cause_of, left_out, named_by}
use Rattle.gft_book.specs.Calls.{HasEodLeft, IsNext, IsOfSource, as_stopped, with_cause}
use Rattle.gft_book.specs.Keeping.{NeverFalls, byte_read}

-- what is known of a transfer when its lock is made; plain data
pub record Start : Type 0 where
  pub table : TableId
  pub how : How
  -- one for each lane, and the teller's
  pub passes : ℕ
  pub label : List ℕ
  pub moment : ℕ
  pub faults : ℕ
  -- the kept ranges, and what a read gave
  pub ranges : List Range
  pub read : Option Image
  -- the total that all lanes announce, where that is known beforehand
  pub total : Option ℕ

abbrev pub start_of : BookState → Transfer → Start
start_of book t = record {
  table = t.roster.table;
  how = t.how;
  passes = length t.roster.counts;
  label = book.keep.drive.label;
  moment = book.keep.drive.moment;
  faults = book.keep.drive.faults;
  ranges = book.keep.ranges;
  read = book.keep.drive.contents;
  total = None;
}

-- what was kept at the start is kept with its byte, as each image since has held it
pub record KeptSince (start : Start) (keep : KeepState) : Type 0 where
  pub label : keep.drive.label ≡ start.label
  pub tells : IsSome start.read → IsSome keep.drive.contents
  pub later : start.moment ≤ keep.drive.moment
  pub counted : NeverFalls start.faults keep.drive.faults
  pub ranges : (x : ℕ) → HasOffset start.ranges x → HasOffset keep.ranges x
  pub held : IsSome start.read → (image : Image) → keep.drive.left_since start.moment image
      → (x v : ℕ) → HasOffset start.ranges x → byte_read start.read x ≡ Some v → held image x ≡ Some v

-- the transfer is the one of the start
pub record IsStarted (start : Start) (t : Transfer) : Type 0 where
  pub table : t.roster.table ≡ start.table
  pub how : t.how ≡ start.how
  pub passes : length t.roster.counts ≡ start.passes

-- the Book stores this transfer, whether it runs or failed, and keeps what was kept then; a failed drive has
-- its fault since
pub record IsLive (start : Start) (book : BookState) : Type 0 where
  pub transfer : InTransfer (IsStarted start) book.stage
  pub kept : KeptSince start book.keep
  pub failed : cause_of book.stage ≡ Some DriveFailed → Rose start.faults book.keep.drive.faults

-- what may fail a transfer whose lanes all announce this total
abbrev pub IsCauseOfTotal : ℕ → Cause → Type 0
IsCauseOfTotal total (TwoTotals kept new) = ⊥
IsCauseOfTotal total (BadTotal other) = other ≡ total
IsCauseOfTotal total (TooManyEods most) = (most ≡ total) ⊎ (most ≡ MAX_EODS)
IsCauseOfTotal total other = Unit {0}

-- no other total was taken
pub record HasOneTotal (total : ℕ) (t : Transfer) : Type 0 where
  pub kept : (other : ℕ) → t.count.total ≡ Some other → other ≡ total
  pub cause : IfSome t.cause (IsCauseOfTotal total)

-- where the total is known, none but that was taken
abbrev pub KeepsTotal : Start → Stage → Type 0
KeepsTotal start stage = IfSome start.total (λ total. InTransfer (HasOneTotal total) stage)

-- no transfer
abbrev pub no_start : Start
no_start = record {
  table = record {
    words = 0;
    slots = 0;
    views_name = 0;
    atom = 0;
    block = 0;
    offset = 0;
    slot_names = [];
  };
  how = Esto;
  passes = 0;
  label = [];
  moment = 0;
  faults = 0;
  ranges = [];
  read = None;
  total = None;
}

-- what is known when this Book goes into its lock
abbrev pub start_at : BookState → Stage → Start
start_at book (Storing t) = start_of book t
start_at book other = no_start

abbrev pub start_now : BookState → Start
start_now book = start_at book book.stage

-- the pass is a lane's of this transfer; or any pass of it
abbrev pub IsLaneOf : Start → Lane → Type 0
IsLaneOf start pass = (pass.table ≡ start.table) × (pass.lane + 1 < start.passes)

abbrev pub IsPassOf : Start → Lane → Type 0
IsPassOf start pass = (pass.table ≡ start.table) × (pass.lane < start.passes)

-- what honest senders of this transfer hand in
abbrev pub BlockIn : (List ℕ → Option Sent) → Start → Lane → ℕ → List ℕ → Type 0
BlockIn sent start pass offset bytes =
    IfSome (sent start.label) (λ s. IsOfSource s.source offset bytes
    × IfSome (left_out start.how) (λ rest. IsNext (s.orders rest) pass offset bytes))

-- and the total that is known, if one is
abbrev pub TotalIn : (List ℕ → Option Sent) → Start → ℕ → Type 0
TotalIn sent start total =
    IfSome start.total (λ known. total ≡ known)
    × IfSome (sent start.label) (λ s. IfSome (left_out start.how) (λ rest. total ≡ total_of (s.orders rest)))

abbrev pub EodIn : (List ℕ → Option Sent) → Start → Lane → Type 0
EodIn sent start pass =
    IfSome (sent start.label) (λ s. IfSome (left_out start.how) (λ rest. HasEodLeft (s.orders rest) pass))

-- it is still the same pass
pub record SamePass (before after : Lane) : Type 0 where
  pub table : after.table ≡ before.table
  pub lane : after.lane ≡ before.lane

-- the pass learned that the transfer failed, before or in this call for such a cause
abbrev pub Learns : (Cause → Type 0) → Numbers → Numbers → Type 0
Learns P before after =
    (after ≡ as_stopped before) ⊎ ((cause : Cause) × P cause × (after ≡ with_cause cause before))

-- the cause is the one as which a count's refusal is kept
pub record IsRefusalOf (refusal : Count → Option EodError) (cause : Cause) : Type 0 where
  pub count : Count
  pub error : EodError
  pub refused : refusal count ≡ Some error
  pub kept : cause ≡ cause_of_count error

abbrev pub LearnsCount : (Count → Option EodError) → Numbers → Numbers → Type 0
LearnsCount refusal before after = Learns (IsRefusalOf refusal) before after

-- ---- the line of marks

-- the transfer's line, and what the Book's marks named, when the lock is made; plain data
pub record LineStart : Type 0 where
  pub line : Option LineId
  pub marked : List (List Range)

-- no line
abbrev pub no_line : LineStart
no_line = record { line = None; marked = [] }

-- the marks that were made since are those that were pushed into the line
pub record FillsLine (start : LineStart) (listed : List Mark) (pusher : Pushed) : Type 0 where
  pub line : start.line ≡ Some pusher.line
  pub marks : named_by listed ≡ start.marked ++ pusher.marks

-- marks were made, and pushed into the line
pub record MakesMarks (old new : List Mark) (before after : Pushed) : Type 0 where
  pub made : List (List Range)
  pub line : after.line ≡ before.line
  pub marks : named_by new ≡ named_by old ++ made
  pub pushed : after.marks ≡ before.marks ++ made
