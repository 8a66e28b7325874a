-- How a transfer begins, and why it doesn't.
use Rattle.std.specs.Prelude.{◌≡◌, ◌≢◌, ◌⊎◌, ◌↔◌, ℕ, ◌+◌, ◌<◌, List, [], length, map, replicate, Option, Some}
use Rattle.std.specs.Prelude.{None, Bool, IsSome, Result, MatchOption, MatchResult, true, false}
use Rattle.gft_base.specs.Words.{Rose}
use Rattle.gft_range.specs.declared.Range.{Range}
use Rattle.gft_range.specs.Words.{HasOffset, InRange, KeptRanges}
use Rattle.gft_drive.specs.Words.{Covers, Elapses, Image, LeavesBy, MayLeave}
use Rattle.gft_keep.specs.declared.Standing.{Standing}
use Rattle.gft_keep.specs.declared.Standing.TheVariants.{Whole, Emptying, Torn}
use Rattle.gft_keep.specs.Words.{Empties, IsKeep, KeepState, Reopens}
use Rattle.gft_core.specs.declared.CoreEvent.{CoreEvent}
use Rattle.gft_core.specs.Words.{held}
use Rattle.gft_pass.specs.Words.{AllPasses, Lane, nothing}
use Rattle.gft_book.specs.declared.begin.BeginError.{BeginError}
use Rattle.gft_book.specs.declared.begin.BeginError.TheVariants as begin
use Rattle.gft_book.specs.declared.mark.Mark.{Mark}
use Rattle.gft_book.specs.declared.usage.How.{How}
use Rattle.gft_book.specs.declared.usage.How.TheVariants.{Fresh, Resume, Esto}
use Rattle.gft_book.specs.declared.transfer.Transfer.{Transfer}
use Rattle.gft_book.specs.declared.transfer.Stage.TheVariants.{Rest, Storing}
use Rattle.gft_book.specs.Book.{BookState, usage_of}
use Rattle.gft_book.specs.Fits.{Fits, MayGoOn, Recovers, beginning_of}
use Rattle.gft_book.specs.Keeping.{Keeps}

-- a restart names a byte
abbrev pub NamesSome : How → Type 0
NamesSome (Resume list) = 0 < length list.ranges
NamesSome other = Unit {0}

-- what is known of a file when a transfer wants to begin on it; plain data
pub record Known : Type 0 where
  pub ranges : List Range
  pub complete : Option ℕ
  pub is_born : Bool
  pub read : Option Image

abbrev pub known_of : KeepState → Known
known_of keep = record {
  ranges = keep.ranges;
  complete = keep.complete;
  is_born = keep.is_born;
  read = keep.drive.contents;
}

-- the file as it was found: as the keep knew it, or if a call had broken the keep as an image says that a
-- crash might have left
pub record IsFound (old : KeepState) (file : Known) : Type 0 where
  pub whole : old.standing ≡ Whole → file ≡ known_of old
  pub broken : old.standing ≢ Whole → (read : Image) → file.read ≡ Some read → IsSome old.drive.contents
      → MayLeave old.drive read
  pub names : (read : Image) → file.read ≡ Some read
      → (x : ℕ) → Covers read.ranges x ↔ HasOffset file.ranges x

abbrev pub HasBytes : Known → ℕ → Type 0
HasBytes file n = (read : Image) → file.read ≡ Some read → n ≡ length read.bytes

-- the first range of the list, cut to its first offsets that aren't kept
pub record IsFirstUnkept (ranges list : List Range) (missing : Range) : Type 0 where
  pub some : missing.start < missing.end
  pub in_list : (x : ℕ) → InRange missing x → HasOffset list x
  pub not_kept : (x : ℕ) → InRange missing x → ¬ HasOffset ranges x
  pub first : (x : ℕ) → x < missing.start → HasOffset list x → HasOffset ranges x

-- a STOR restarts from what is kept, and an ESTO adds to a file that is begun here or has no byte, and isn't
-- complete
abbrev pub Admits : Known → How → Type 0
Admits file Fresh = Unit {0}
Admits file (Resume list) = (x : ℕ) → HasOffset list.ranges x → HasOffset file.ranges x
Admits file Esto = (file.complete ≡ None) × (file.is_born ≡ false → HasBytes file 0)

-- the file is complete with this length, or was made elsewhere and has so many bytes
abbrev pub IsCompleteAlready : Known → ℕ → Type 0
IsCompleteAlready file len =
    (file.complete ≡ Some len) ⊎ ((file.is_born ≡ false) × (0 < len) × HasBytes file len)

-- nothing known before the drive is asked bars the transfer
abbrev pub MayAsk : Known → How → Type 0
MayAsk file Esto = file.complete ≡ None
MayAsk file other = Admits file other

-- a keep that a call had broken isn't attached again
abbrev pub NotRecovered : KeepState → BeginError → Type 0
NotRecovered old (begin.Damaged damage) = (old.standing ≢ Whole) × (old.drive.contents ≡ None)
NotRecovered old begin.OutOfMemory = old.standing ≢ Whole
NotRecovered old begin.DriveFailed = old.standing ≢ Whole
NotRecovered old other = ⊥

-- when each refusal comes, by the file as it was found; those of attaching a broken keep again come first
abbrev pub RefusedFor : KeepState → Known → How → BeginError → Type 0
RefusedFor old file how (begin.CompleteAlready len) = (how ≡ Esto) × IsCompleteAlready file len
RefusedFor old file how (begin.NotInJournal missing) =
    (list : KeptRanges) × (how ≡ Resume list) × IsFirstUnkept file.ranges list.ranges missing
RefusedFor old file how (begin.Damaged damage) = (old.standing ≢ Whole) × (old.drive.contents ≡ None)
RefusedFor old file how begin.OutOfMemory = (old.standing ≢ Whole) ⊎ Admits file how
RefusedFor old file how begin.DriveFailed = (old.standing ≢ Whole) ⊎ MayAsk file how
RefusedFor old file how other = ⊥

-- only a failed drive raises the count of faults
abbrev pub CountsBegin : BeginError → ℕ → ℕ → Type 0
CountsBegin begin.DriveFailed before now = Rose before now
CountsBegin other before now = now ≡ before

abbrev pub CountsRefusal : ℕ → ℕ → Option BeginError → Type 0
CountsRefusal before now answer = MatchOption answer (now ≡ before) (λ error. CountsBegin error before now)

abbrev pub CountsAnswer : {T : Type 0} → ℕ → ℕ → Result T BeginError → Type 0
CountsAnswer before now result =
    MatchResult result (λ _. now ≡ before) (λ error. CountsBegin error before now)

-- a keep after it was looked at, and attached again if a call had broken it: no image changed
pub record FindsKeep (old new : KeepState) : Type 0 where
  pub time : Elapses old.drive new.drive
  pub images : LeavesBy (λ from image. image ≡ from) old.drive new.drive
  pub whole : old.standing ≡ Whole → (new.standing ≡ Whole) × (known_of new ≡ known_of old)
  pub broken : old.standing ≢ Whole
      → (new.standing ≡ Whole) ⊎ ((new.standing ≡ old.standing) × (new.ranges ≡ old.ranges))

-- an unbroken keep after it was looked at
pub record Looks (old new : KeepState) : Type 0 where
  pub keep : IsKeep new
  pub whole : new.standing ≡ Whole
  pub known : known_of new ≡ known_of old
  pub time : Elapses old.drive new.drive
  pub images : LeavesBy (λ from image. image ≡ from) old.drive new.drive

-- what the keep's call left of the file as it was found
pub record OpensAfresh (new : KeepState) : Type 0 where
  pub ranges : new.ranges ≡ []
  pub read : (image : Image) → new.drive.contents ≡ Some image → image.bytes ≡ []

pub record OpensAgain (file : Known) (new : KeepState) : Type 0 where
  pub ranges : new.ranges ≡ file.ranges
  pub held : (read image : Image) → file.read ≡ Some read → new.drive.contents ≡ Some image
      → (x v : ℕ) → held read x ≡ Some v → held image x ≡ Some v

abbrev pub OpensFile : How → Known → KeepState → Type 0
OpensFile Fresh file new = OpensAfresh new
OpensFile other file new = OpensAgain file new

-- what the keep's call may leave at any moment, and how it breaks the keep if it fails
abbrev pub MayOpen : How → Image → Image → Type 0
MayOpen Fresh from image = Empties from image
MayOpen other from image = Reopens from image

abbrev pub broken_by : How → Standing
broken_by Fresh = Emptying
broken_by other = Torn

-- the marks of the transfer before, if this begin fails
abbrev pub marks_left : How → List Mark → List Mark
marks_left Fresh marks = []
marks_left other marks = marks

-- the keep takes the transfer's blocks
pub record OpensFor (how : How) (old new : KeepState) : Type 0 where
  pub whole : new.standing ≡ Whole
  pub is_born : new.is_born ≡ true
  pub incomplete : new.complete ≡ None
  pub opens : OpensFile how (known_of old) new

-- the transfer begins
pub record BeginsStore (old new : BookState) (way : How) (lanes : ℕ) (dealt : List Lane) : Type 0 where
  pub rest : old.stage ≡ Rest
  pub transfer : Transfer
  pub stage : new.stage ≡ Storing transfer
  pub how : transfer.how ≡ way
  pub cause : transfer.cause ≡ None
  pub total : transfer.count.total ≡ None
  pub eods : transfer.count.eods ≡ 0
  pub counts : transfer.roster.counts ≡ replicate (lanes + 1) nothing
  -- a pass for each lane, in order, and the teller's; none has had anything
  pub passes : AllPasses transfer.roster.table (lanes + 1) dealt
  pub fresh : map (λ p. p.count) dealt ≡ replicate (lanes + 1) nothing
  pub marks : new.marks ≡ []
  pub unmarked : new.unmarked ≡ 0
  pub turns : new.turns ≡ 0
  pub file : Known
  pub found : IsFound old.keep file
  pub admits : Admits file way
  pub opens : OpensFile way file new.keep
  pub faults : new.keep.drive.faults ≡ old.keep.drive.faults

-- it doesn't, and the use is as it was
pub record NotBegun (unchanged : Type 0) (old new : BookState) (way : How) (error : BeginError)
    : Type 0 where
  pub stage : new.stage ≡ old.stage
  pub turns : new.turns ≡ old.turns
  pub unmarked : new.unmarked ≡ old.unmarked
  -- Busy exactly if the file isn't at rest
  pub busy : (old.stage ≡ Rest → ⊥) → (error ≡ begin.Busy (usage_of old.stage)) × unchanged
  pub other : old.stage ≡ Rest → RefusedFor old.keep (known_of new.keep) way error
  pub faults : CountsBegin error old.keep.drive.faults new.keep.drive.faults
  -- marks stay, unless a begin afresh failed to empty the file
  pub marks : (new.marks ≡ old.marks) ⊎ ((way ≡ Fresh) × (error ≡ begin.DriveFailed) × (new.marks ≡ []))

-- time goes on, and the table of the last transfer stays
pub record BeginsIn (old new : BookState) : Type 0 where
  pub time : Elapses old.keep.drive new.keep.drive
  pub last : new.last ≡ old.last

-- a begin that doesn't empty the file keeps all that is kept, unless an earlier one was emptying it (if the
-- drive tells its contents)
abbrev pub KeepsUnlessFresh : How → KeepState → KeepState → Type 0
KeepsUnlessFresh Fresh old new = Unit {0}
KeepsUnlessFresh other old new = old.standing ≢ Emptying → IsSome old.drive.contents → Keeps old new

-- a list that fits goes on with what the keep was attached again on, and then with the begin, if it begins.
-- Each image since the call began goes on with the list as it was, or as it is then, or names nothing if a
-- begin was emptying the file
pub record BeginsEvents {T E : Type 0} (old new : BookState) (way : How) (result : Result T E)
    (events : List CoreEvent) : Type 0 where
  pub now : List CoreEvent
  pub recovers : Recovers old.keep.standing events now
  pub fits : MatchResult result (λ _. Fits new (beginning_of way now)) (λ _. Fits new now)
  pub cut_short : (image : Image) → new.keep.drive.left_since old.keep.drive.moment image
      → MayGoOn old.keep.standing events image ⊎ MayGoOn (broken_by way) now image
