-- Which lists of events, the newest first, can have made a Book; and which events each call is.
use Rattle.std.specs.Prelude.{◌≡◌, ◌⊎◌, ◌↔◌, ℕ, List, [], ◌∷◌, ◌++◌, Option, Some, None, IsSome, IfSome}
use Rattle.std.specs.Prelude.{true, false}
use Rattle.gft_range.specs.Words.{HasOffset}
use Rattle.gft_drive.specs.Words.{Image}
use Rattle.gft_keep.specs.declared.Standing.{Standing}
use Rattle.gft_keep.specs.declared.Standing.TheVariants.{Whole, Emptying, Torn}
use Rattle.gft_keep.specs.Words.{EachImage, NamesNone}
use Rattle.gft_core.specs.declared.CoreEvent.{CoreEvent}
use Rattle.gft_core.specs.declared.CoreEvent.TheVariants as event
use Rattle.gft_core.specs.Words.{Booked, CountsTransfer, IsInProgress, IsMarkOf, Legal, begun, is_open, since}
use Rattle.gft_pass.specs.declared.Cause.{Cause}
use Rattle.gft_pass.specs.declared.Cause.TheVariants as cause
use Rattle.gft_book.specs.declared.mark.Mark.{Mark}
use Rattle.gft_book.specs.declared.usage.How.{How}
use Rattle.gft_book.specs.declared.usage.How.TheVariants as how
use Rattle.gft_book.specs.declared.transfer.Transfer.{Transfer}
use Rattle.gft_book.specs.Book.{BookState, IsStoring, cause_of, transfer_of}

-- an image with which the events may go on; if a begin was emptying the file, also one that names nothing
abbrev pub MayGoOn : Standing → List CoreEvent → Image → Type 0
MayGoOn Emptying events image = Legal (event.Crash image ∷ events) ⊎ NamesNone image
MayGoOn other events image = Legal (event.Crash image ∷ events)

-- the events of the transfer that runs or failed: it began, its count is theirs, and if a cause is kept they
-- failed it
pub record TellsTransfer (events : List CoreEvent) (t : Transfer) : Type 0 where
  pub begun : begun events ≡ true
  pub counts : t.cause ≡ None → CountsTransfer (since events) t.count
  pub failed : IsSome t.cause → (n : ℕ) → ¬ IsInProgress (since events) n

-- the marks are what the Mark events since the last Fresh or Resume name, in order
abbrev pub AreMarks : List CoreEvent → List Mark → Type 0
AreMarks [] marks = marks ≡ []
AreMarks (event.Fresh ∷ older) marks = marks ≡ []
AreMarks (event.Resume list ∷ older) marks = marks ≡ []
AreMarks (event.Mark ∷ older) marks =
    (earlier : List Mark) × ((mark : Mark) × (marks ≡ earlier ++ mark ∷ []) × AreMarks older earlier
    × IsMarkOf older mark.ranges.ranges)
AreMarks (event.Crash image ∷ older) marks = AreMarks older marks
AreMarks (e ∷ older) marks = AreMarks older marks

pub record Fits (book : BookState) (events : List CoreEvent) : Type 0 where
  pub legal : Legal events
  -- what is kept is what they booked
  pub booked : (x : ℕ) → HasOffset book.keep.ranges x ↔ Booked events x
  -- every image that a crash may leave now continues them
  pub images : EachImage book.keep (MayGoOn book.keep.standing events)
  -- a Block is open only if a call other than a begin broke the keep
  pub closed : (book.keep.standing ≡ Torn → ⊥) → is_open events ≡ false
  pub transfer : IfSome (transfer_of book.stage) (TellsTransfer events)
  pub marks : IsStoring book.stage → AreMarks events book.marks

-- ---- the event of each call: none if it found the transfer failed

abbrev pub if_running : Option Cause → List CoreEvent → List CoreEvent → List CoreEvent
if_running None new events = new
if_running (Some c) new events = events

-- a block that was stored; that was left open by a failed drive; that was refused
abbrev pub stored_events : Option Cause → ℕ → ℕ → List ℕ → List CoreEvent → List CoreEvent
stored_events None lane offset bytes events = event.Block lane 0 offset bytes false ∷ events
stored_events (Some cause.DriveFailed) lane offset bytes events =
    event.Fault ∷ event.Block lane 0 offset bytes true ∷ events
stored_events (Some other) lane offset bytes events = event.Lost ∷ events

-- the cause before the call, and after it
abbrev pub store_events : Option Cause → Option Cause → ℕ → ℕ → List ℕ → List CoreEvent
    → List CoreEvent
store_events before after lane offset bytes events =
    if_running before (stored_events after lane offset bytes events) events

-- what a call of `store` is; and a stop in it leaves an open block behind the events, in every image
pub record StoresEvents (old new : BookState) (lane offset : ℕ) (bytes : List ℕ) (events : List CoreEvent)
    : Type 0 where
  pub fits : Fits new (store_events (cause_of old.stage) (cause_of new.stage) lane offset bytes events)
  pub cut_short : cause_of old.stage ≡ None → IsSome old.keep.drive.contents → (image : Image)
      → new.keep.drive.left_since old.keep.drive.moment image
      → Legal (event.Crash image ∷ event.Block lane 0 offset bytes true ∷ events)

abbrev pub failure_of : Cause → CoreEvent
failure_of cause.LinkFailed = event.Fault
failure_of cause.Aborted = event.Abort
failure_of cause.ControlGone = event.Abort
failure_of other = event.Lost

-- an ESTO begins with a Resume of nothing
abbrev pub beginning_of : How → List CoreEvent → List CoreEvent
beginning_of how.Fresh events = event.Fresh ∷ events
beginning_of (how.Resume list) events = event.Resume list ∷ events
beginning_of how.Esto events = event.Resume (record { ranges = []; spare = 0 }) ∷ events

-- a Crash with what a read gave
abbrev pub IsAfterCrash : List CoreEvent → List CoreEvent → Type 0
IsAfterCrash events now = (image : Image) × (now ≡ event.Crash image ∷ events)

-- a keep that was broken was attached again: a Crash with what a read gave, and before it the Fresh of a
-- begin that had emptied the file
abbrev pub Recovers : Standing → List CoreEvent → List CoreEvent → Type 0
Recovers Whole events now = now ≡ events
Recovers Emptying events now =
    (now ≡ events) ⊎ (IsAfterCrash events now
    ⊎ ((image : Image) × (now ≡ event.Crash image ∷ event.Fresh ∷ events) × NamesNone image))
Recovers Torn events now = (now ≡ events) ⊎ IsAfterCrash events now
