-- A file that is read: when readers begin, what they are lent, and why they aren't.
use Rattle.std.specs.Prelude.{◌≡◌, ◌≢◌, ◌⊎◌, ℕ, ◌+◌, ◌-◌, ◌<◌, ◌≤◌, ◌^◌, nat_lt, if◌then◌else◌, List, length}
use Rattle.std.specs.Prelude.{All, Option, Some, None, IsSome, IfSome, slice_get, true, false}
use Rattle.gft_drive.specs.Words.{DriveState, Elapses, Image, IsTwin, Sent}
use Rattle.gft_keep.specs.declared.Standing.TheVariants.{Whole, Emptying}
use Rattle.gft_keep.specs.Words.{KeepState}
use Rattle.gft_core.specs.declared.CoreEvent.{CoreEvent}
use Rattle.gft_core.specs.Words.{CarriesSource}
use Rattle.gft_book.specs.declared.begin.BeginError.{BeginError}
use Rattle.gft_book.specs.declared.begin.BeginError.TheVariants as begin
use Rattle.gft_book.specs.declared.transfer.Stage.{Stage}
use Rattle.gft_book.specs.declared.transfer.Stage.TheVariants.{Rest, Reading, Storing}
use Rattle.gft_book.specs.Begin.{CountsBegin, HasBytes, IsFound, Known, known_of}
use Rattle.gft_book.specs.Book.{BookState, usage_of}
use Rattle.gft_book.specs.Fits.{Fits, MayGoOn, Recovers}
use Rattle.gft_book.specs.Keeping.{Keeps}

-- ---- readers

-- how many readers there are with one more: none if the file is stored, or as many read it as can be counted
abbrev pub one_reader_more : Stage → Option ℕ
one_reader_more Rest = Some 1
one_reader_more (Reading readers) = if nat_lt readers (2 ^ 32 - 1) then Some (readers + 1) else None
one_reader_more (Storing transfer) = None

-- one reader fewer: a file without readers is at rest
abbrev pub one_reader_fewer : Stage → Stage
one_reader_fewer (Reading readers) = if nat_lt 1 readers then Reading (readers - 1) else Rest
one_reader_fewer other = other

-- ---- which files are read

-- a complete file up to its length, or all bytes of one that was made elsewhere
abbrev pub MayRead : Known → ℕ → Type 0
MayRead file len =
    ((file.is_born ≡ true) × (file.complete ≡ Some len))
    ⊎ ((file.is_born ≡ false) × (0 < len) × HasBytes file len)

-- nothing known before the drive is asked bars a reader
abbrev pub MayAskLength : Known → Type 0
MayAskLength file = (file.is_born ≡ false) ⊎ IsSome file.complete

-- when each refusal comes, by the file as it was found; those of attaching a broken keep again come first
abbrev pub RefusedRead : KeepState → Known → BeginError → Type 0
RefusedRead old file begin.NoSuch = (file.is_born ≡ false) × HasBytes file 0
RefusedRead old file begin.Incomplete = (file.is_born ≡ true) × (file.complete ≡ None)
RefusedRead old file (begin.Damaged damage) = (old.standing ≢ Whole) × (old.drive.contents ≡ None)
RefusedRead old file begin.OutOfMemory = (old.standing ≢ Whole) ⊎ ((len : ℕ) × MayRead file len)
RefusedRead old file begin.DriveFailed = (old.standing ≢ Whole) ⊎ MayAskLength file
RefusedRead old file other = ⊥

-- a twin that isn't given
abbrev pub IsTwinsRefusal : BeginError → Type 0
IsTwinsRefusal begin.OutOfMemory = Unit {0}
IsTwinsRefusal begin.DriveFailed = Unit {0}
IsTwinsRefusal other = ⊥

-- ---- the call

-- so many drives, each of which reads what the drive reads, and no call of theirs has failed
pub record AreTwins {D : Type 0} (state : D → DriveState) (drive : DriveState) (count : ℕ) (twins : List D)
    : Type 0 where
  pub many : length twins ≡ count
  pub each : All (λ twin. IsTwin drive (state twin)) twins

-- what may be read has so many bytes; if the origin names a source, they are the source's first ones
pub record IsReadable (sent : List ℕ → Option Sent) (keep : KeepState) (len : ℕ) : Type 0 where
  pub may : MayRead (known_of keep) len
  pub within : (read : Image) → keep.drive.contents ≡ Some read → len ≤ length read.bytes
  pub source : IfSome (sent keep.drive.label) (λ s. (read : Image) → keep.drive.contents ≡ Some read
      → CarriesSource s.source (slice_get read.bytes))

-- a reader begins
pub record BeginsRead {D : Type 0} (state : D → DriveState) (sent : List ℕ → Option Sent) (old new : BookState)
    (count : ℕ) (twins : List D) (len : ℕ) : Type 0 where
  pub readers : ℕ
  pub more : one_reader_more old.stage ≡ Some readers
  pub stage : new.stage ≡ Reading readers
  pub found : IsFound old.keep (known_of new.keep)
  pub readable : IsReadable sent new.keep len
  pub lent : AreTwins state new.keep.drive count twins
  pub faults : new.keep.drive.faults ≡ old.keep.drive.faults

-- it doesn't, and the use is as it was
pub record NotRead (unchanged : Type 0) (old new : BookState) (error : BeginError) : Type 0 where
  pub stage : new.stage ≡ old.stage
  -- Busy exactly if the file is stored, or read by as many as can be counted
  pub busy : one_reader_more old.stage ≡ None → (error ≡ begin.Busy (usage_of old.stage)) × unchanged
  pub other : IsSome (one_reader_more old.stage) → RefusedRead old.keep (known_of new.keep) error
  pub faults : CountsBegin error old.keep.drive.faults new.keep.drive.faults

-- time goes on, and nothing changes but the use, and a keep that was attached again; what was kept is, unless
-- a begin was emptying the file (if the drive tells its contents)
pub record OnlyReads (old new : BookState) : Type 0 where
  pub time : Elapses old.keep.drive new.keep.drive
  pub last : new.last ≡ old.last
  pub marks : new.marks ≡ old.marks
  pub unmarked : new.unmarked ≡ old.unmarked
  pub turns : new.turns ≡ old.turns
  pub keeps : old.keep.standing ≢ Emptying → IsSome old.keep.drive.contents → Keeps old.keep new.keep

-- a list that fits goes on with what the keep was attached again on, and each image since the call began with
-- the list as it was
pub record ReadsEvents (old new : BookState) (events : List CoreEvent) : Type 0 where
  pub now : List CoreEvent
  pub recovers : Recovers old.keep.standing events now
  pub fits : Fits new now
  pub cut_short : (image : Image) → new.keep.drive.left_since old.keep.drive.moment image
      → MayGoOn old.keep.standing events image
