-- What `gridftpd drain` promises.
use Rattle.std.specs.Prelude.{◌≡◌, ℕ, ◌<◌, ◌≤◌, ◌⊎◌, List, [], ◌∷◌, length, take, Option, Some}
use Rattle.std.specs.Io.KnownBytes.{Consumes, Appends}
use Rattle.gft_base.specs.Words.{Rose}
use Rattle.gft_eblock.specs.Words.{Arrival, Arrives, eods, HasEnded}
use Rattle.gft_core.specs.Words.{Done}
use Rattle.gft_outside.specs.Words.{IsTruthful}
use Rattle.gft_drive.specs.Words.{DriveState, Goes, Image}
use Rattle.gft_drive.specs.declared.TheConstants.{MAX_RANGES}
use Rattle.gft_eblock.specs.declared.TheConstants.{MAX_BYTES}
use Rattle.gridftpd.specs.Cause.{told_by, EndsNothing, IsCause, NeedsMoreRanges}
use Rattle.gridftpd.specs.Events.{events_of}
use Rattle.gridftpd.specs.Images.{FindsDamage, HoldsAtEnd}
use Rattle.gridftpd.specs.Line.{text_of, complete_text, damaged_text, drive_failed_text, out_of_memory_text}
use Rattle.gridftpd.specs.Line.{ranges_full_text, read_failed_text, usage_text}
use Rattle.gridftpd.specs.Status.{number_of, status_of}
use Rattle.gridftpd.specs.declared.outcome.Outcome.{Outcome}
use Rattle.gridftpd.specs.declared.outcome.Outcome.TheVariants as outcome
use Rattle.gridftpd.specs.declared.status.Status.{Status}
use Rattle.gridftpd.specs.declared.status.Status.TheVariants as status

-- these bytes were taken of the input, at most 2^58, and none of their shorter fronts has what ends an
-- intake: what follows is unread
pub record IsTaken (before after : Option (List ℕ)) (stream : List ℕ) : Type 0 where
  pub consumed : Consumes before after stream
  pub few : length stream ≤ MAX_BYTES
  pub in_time : (n : ℕ) → n < length stream → EndsNothing (told_by (take n stream))

-- the data is the source, and no byte more
abbrev pub IsFile : List ℕ → Image → Type 0
IsFile source image = image.bytes ≡ source

-- the line was put, the status is its own and no put failed; or the put failed
abbrev pub IsPut : Status → List ℕ → Status → Option (List ℕ) → Option (List ℕ) → ℕ → ℕ → Type 0
IsPut own line result before after faults risen =
    ((result ≡ own) × Appends before after line × (risen ≡ faults))
    ⊎ ((result ≡ status.PutFailed) × Rose faults risen)

-- the line of this outcome is made, and so is of want of memory where memory for it is refused
abbrev pub IsMade : Outcome → Type 0
IsMade outcome.Complete = ⊥
IsMade outcome.TooLong = ⊥
IsMade outcome.Damaged = ⊥
IsMade outcome.ReadFailed = ⊥
IsMade outcome.DriveFailed = ⊥
IsMade other = Unit {0}

-- what is printed for an outcome: its line, or that of want of memory
abbrev pub IsTold : Outcome → Status → Option (List ℕ) → Option (List ℕ) → ℕ → ℕ → Type 0
IsTold ending own before after faults risen =
    IsPut (status_of ending) (text_of ending) own before after faults risen
    ⊎ (IsMade ending × IsPut status.OutOfMemory out_of_memory_text own before after faults risen)

-- the input's count of faults rose where a read failed, and stays else
abbrev pub InputIsBlamed : Outcome → ℕ → ℕ → Type 0
InputIsBlamed outcome.ReadFailed before now = Rose before now
InputIsBlamed other before now = now ≡ before

-- the drive's count rose where a call of the drive failed, and stays else
abbrev pub DriveIsBlamed : Outcome → ℕ → ℕ → Type 0
DriveIsBlamed outcome.DriveFailed before now = Rose before now
DriveIsBlamed other before now = now ≡ before

-- the counts of faults of what `drain` stands on
pub record FaultCounts : Type 0 where
  pub input : ℕ
  pub output : ℕ
  pub drive : ℕ

-- no fault was counted
pub record NoneCounted (before now : FaultCounts) : Type 0 where
  pub input : now.input ≡ before.input
  pub output : now.output ≡ before.output
  pub drive : now.drive ≡ before.drive

-- no count rose
pub record NoneRose (before now : FaultCounts) : Type 0 where
  pub input : ¬ Rose before.input now.input
  pub output : ¬ Rose before.output now.output
  pub drive : ¬ Rose before.drive now.drive

-- what a status says of the counts, and of the line that the output grew by; a refusal has its outcome's
abbrev pub Answers : Status → FaultCounts → FaultCounts → Option (List ℕ) → Option (List ℕ) → Type 0
Answers status.Complete old new before after = NoneCounted old new × Appends before after complete_text
Answers status.Refused old new before after = NoneCounted old new
Answers status.Usage old new before after = NoneCounted old new × Appends before after usage_text
Answers status.ReadFailed old new before after =
    Rose old.input new.input × (new.output ≡ old.output) × (new.drive ≡ old.drive)
    × Appends before after read_failed_text
Answers status.PutFailed old new before after = Rose old.output new.output
Answers status.DriveFailed old new before after =
    (new.input ≡ old.input) × (new.output ≡ old.output) × Rose old.drive new.drive
    × Appends before after drive_failed_text
Answers status.OutOfMemory old new before after =
    NoneCounted old new × Appends before after out_of_memory_text
Answers status.Damaged old new before after = NoneCounted old new × Appends before after damaged_text

-- the outcomes that are refused by a 426 or a 452 line
abbrev pub IsRefusal : Outcome → Type 0
IsRefusal (outcome.Lost taken) = Unit {0}
IsRefusal (outcome.Hole total number missing) = Unit {0}
IsRefusal (outcome.BadBlock bad) = Unit {0}
IsRefusal (outcome.CountRefused error) = Unit {0}
IsRefusal outcome.TooLong = Unit {0}
IsRefusal (outcome.RangesFull kept) = Unit {0}
IsRefusal other = ⊥

-- one lane that sends a source: its bytes are the source's, and all have arrived where its EOD has
pub record IsHonest (source : List ℕ) (list : List Arrival) : Type 0 where
  pub truthful : IsTruthful source list
  pub whole : 0 < eods list → (x : ℕ) → x < length source → Arrives list x

-- an input that makes a transfer done, with its EOD within fewer than 2^58 bytes
pub record IsGoodInput (bytes : List ℕ) : Type 0 where
  pub done : Done (events_of (told_by bytes))
  pub soon : (n : ℕ) × (n < MAX_BYTES) × HasEnded (told_by (take n bytes))

-- how right words end: by the first cause that is met, with its line; what follows is unread, and whatever
-- the cause, what is kept is held by what a read gives and by each image that a crash may leave
pub record EndsAs (number : ℕ) (before after : Option (List ℕ)) (written put : Option (List ℕ))
    (faults risen : ℕ) (old new : DriveState) : Type 0 where
  pub ending : Outcome
  pub stream : List ℕ
  pub taken : IsTaken before after stream
  pub cause : IsCause ending stream after
  pub own : Status
  pub number_is : number ≡ number_of own
  pub told : IsTold ending own written put faults risen
  pub damage : FindsDamage ending old
  pub holds : HoldsAtEnd ending stream old new
  pub goes : Goes old new

-- the ranges were full, and the line says so
pub record FillsRanges (before after : Option (List ℕ)) (written put : Option (List ℕ)) : Type 0 where
  pub stream : List ℕ
  pub taken : IsTaken before after stream
  pub cause : NeedsMoreRanges stream
  pub line : Appends written put (ranges_full_text MAX_RANGES)
