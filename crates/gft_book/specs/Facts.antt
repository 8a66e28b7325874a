-- What is true of every Book. `IsBook` is the invariant of its type, so it holds each time its lock is got.
use Rattle.std.specs.Prelude.{◌≡◌, ◌≢◌, ◌⊎◌, ℕ, ◌+◌, ◌*◌, ◌<◌, ◌≤◌, List, [], length, sum_by, slice_get}
use Rattle.std.specs.Prelude.{Option, Some, None, IsSome, IfSome, true}
use Rattle.gft_range.specs.declared.Range.{Range}
use Rattle.gft_range.specs.declared.TheConstants.{MAX_ITEMS}
use Rattle.gft_range.specs.Words.{HasOffset}
use Rattle.gft_eod.specs.declared.TheConstants.{MAX_EODS}
use Rattle.gft_eod.specs.Words.{Count, IsCount, IsMet}
use Rattle.gft_drive.specs.declared.TheConstants.{MAX_RANGES}
use Rattle.gft_drive.specs.Words.{Image, IsBorn, IsComplete, Orders, Sent, total_of}
use Rattle.gft_keep.specs.declared.Standing.{Standing}
use Rattle.gft_keep.specs.declared.Standing.TheVariants.{Whole, Emptying, Torn}
use Rattle.gft_keep.specs.Words.{EachImage, IsKeep, KeepState}
use Rattle.gft_core.specs.Words.{CarriesSource, held}
use Rattle.gft_pass.specs.declared.Cause.{Cause}
use Rattle.gft_pass.specs.declared.Cause.TheVariants.{TwoTotals, BadTotal, TooManyEods, Hole, DriveFailed}
use Rattle.gft_pass.specs.declared.Cause.TheVariants.{RangesFull}
use Rattle.gft_pass.specs.declared.Numbers.{Numbers}
use Rattle.gft_pass.specs.Words.{IsAt, causes, one}
use Rattle.gft_book.specs.declared.mark.Mark.{Mark}
use Rattle.gft_book.specs.declared.transfer.Transfer.{Transfer}
use Rattle.gft_book.specs.declared.transfer.Stage.TheVariants.{Reading}
use Rattle.gft_book.specs.Book.{BookState, left_out, transfer_of}

-- ---- marks

-- a mark names ranges, as many as a marker has room for, all of them kept (if the drive tells its contents)
pub record IsMark (keep : KeepState) (place : ℕ) (mark : Mark) : Type 0 where
  pub number : mark.number ≡ place
  pub some : 1 ≤ length mark.ranges.ranges
  pub most : length mark.ranges.ranges ≤ MAX_ITEMS
  pub kept : IsSome keep.drive.contents
      → (x : ℕ) → HasOffset mark.ranges.ranges x → HasOffset keep.ranges x

-- marks are numbered from 0, and if a begin could have emptied the file there is none
pub record MarksHold (keep : KeepState) (marks : List Mark) : Type 0 where
  pub each : (i : ℕ) (mark : Mark) → slice_get marks i ≡ Some mark → IsMark keep i mark
  pub gone : keep.standing ≡ Emptying → marks ≡ []

-- ---- numbers of the passes

-- the transfer takes nothing more: a cause is kept, or all EODs came that were announced
abbrev pub IsEnded : Count → Option Cause → Type 0
IsEnded count cause = IsSome cause ⊎ IsMet count

pub record NumbersAgree (counts : List Numbers) (count : Count) (cause : Option Cause) : Type 0 where
  pub within : IsCount count
  -- the last pass is the teller's, and sends nothing
  pub teller : (k : ℕ) (n : Numbers) → k + 1 ≡ length counts → IsAt counts k n
      → (n.bytes ≡ 0) × (n.eods ≡ 0) × (n.total ≡ None)
  -- the EODs are those of all lanes
  pub eods : count.eods ≡ sum_by (λ n. n.eods) counts
  -- a total is kept if a lane has had one, and is that of each
  pub totals : (k total : ℕ) (n : Numbers) → IsAt counts k n → n.total ≡ Some total
      → count.total ≡ Some total
  pub told : (total : ℕ) → count.total ≡ Some total
      → (k : ℕ) × ((n : Numbers) × IsAt counts k n × (n.total ≡ Some total))
  -- a kept cause stands in one pass's numbers, and in no others
  pub causes : causes counts ≡ one cause
  -- a call finds the transfer ended only if it has
  pub stopped : (k : ℕ) (n : Numbers) → IsAt counts k n → n.stopped ≡ true → IsEnded count cause

-- ---- the origin's bytes

-- what an image holds is the source's, and so is all of a file that is complete or not begun here
pub record IsFrom (source : List ℕ) (image : Image) : Type 0 where
  pub named : CarriesSource source (held image)
  pub complete : (len : ℕ) → IsComplete image.ranges len → CarriesSource source (slice_get image.bytes)
  pub unborn : ¬ IsBorn image.ranges → CarriesSource source (slice_get image.bytes)

-- of what is known of the label, each image is from the source
abbrev pub ImagesAreFrom : (List ℕ → Option Sent) → KeepState → Type 0
ImagesAreFrom sent keep = IfSome (sent keep.drive.label) (λ s. EachImage keep (IsFrom s.source))

-- a lane has sent the front of its order, all of it if it has sent its EODs, and that is kept
pub record HasSent (order : List ℕ) (number : ℕ) (keep : KeepState) (n : Numbers) : Type 0 where
  pub kept : (i x : ℕ) → i < n.bytes → slice_get order i ≡ Some x → HasOffset keep.ranges x
  pub most : n.bytes ≤ length order
  pub eods : n.eods ≤ number
  pub whole : n.eods ≡ number → n.bytes ≡ length order

-- the transfer is the one that the origin's senders send
pub record IsSentBy (orders : Orders) (rest : List Range) (keep : KeepState) (t : Transfer) : Type 0 where
  pub resumed : (x : ℕ) → HasOffset rest x → HasOffset keep.ranges x
  pub lanes : (k : ℕ) (n : Numbers) → IsAt t.roster.counts k n
      → HasSent (orders.order k) (orders.number k) keep n
  pub total : (total : ℕ) → t.count.total ≡ Some total → total ≡ total_of orders

-- ---- the cause

-- what has to be true of the Book if this cause is kept
abbrev pub ShowsCause : KeepState → Count → Cause → Type 0
ShowsCause keep count (TwoTotals kept new) = (count.total ≡ Some kept) × (kept ≢ new)
ShowsCause keep count (BadTotal total) = (total ≡ 0) ⊎ (MAX_EODS < total)
ShowsCause keep count (TooManyEods total) = total ≤ count.eods
ShowsCause keep count (RangesFull kept) = (kept ≡ MAX_RANGES) × (length keep.ranges ≡ MAX_RANGES)
ShowsCause keep count (Hole total eods missing) = ⊥
ShowsCause keep count other = Unit {0}

-- honest senders never cause these, and RangesFull only with a source that is longer than as many ranges with
-- as many gaps between them (if the drive tells its contents)
abbrev pub IsHonestCause : List ℕ → KeepState → Cause → Type 0
IsHonestCause source keep (TwoTotals kept new) = ⊥
IsHonestCause source keep (BadTotal total) = ⊥
IsHonestCause source keep (TooManyEods total) = ⊥
IsHonestCause source keep (RangesFull kept) = IsSome keep.drive.contents → 2 * MAX_RANGES < length source
IsHonestCause source keep other = Unit {0}

-- a failed drive leaves the keep torn, and nothing else does
abbrev pub standing_after : Option Cause → Standing
standing_after (Some DriveFailed) = Torn
standing_after other = Whole

-- ---- all together

-- a transfer of this keep's label
pub record IsTransfer (sent : List ℕ → Option Sent) (keep : KeepState) (t : Transfer) : Type 0 where
  pub standing : keep.standing ≡ standing_after t.cause
  pub is_born : keep.is_born ≡ true
  pub incomplete : keep.complete ≡ None
  pub numbers : NumbersAgree t.roster.counts t.count t.cause
  pub origin : IfSome (sent keep.drive.label) (λ s. IfSome (left_out t.how) (λ rest.
      IsSentBy (s.orders rest) rest keep t × IfSome t.cause (IsHonestCause s.source keep)))
  pub cause : IfSome t.cause (ShowsCause keep t.count)

pub record IsBook (sent : List ℕ → Option Sent) (book : BookState) : Type 0 where
  -- what a crash may leave
  pub keep : IsKeep book.keep
  pub marks : MarksHold book.keep book.marks
  pub origin : ImagesAreFrom sent book.keep
  pub transfer : IfSome (transfer_of book.stage) (IsTransfer sent book.keep)
  pub reading : (readers : ℕ) → book.stage ≡ Reading readers → 1 ≤ readers
