-- What a step of sending does: which bytes of which file went out, and why it ended.
--
-- A drive that doesn't tell its bytes may give others at each read. So a step takes any file that the drive
-- may have had so far, and leaves one that it may have with what was read now. Where a drive tells its bytes,
-- both are these.
use Rattle.std.specs.Prelude.{◌≡◌, ◌≢◌, ◌⊎◌, ℕ, ◌+◌, ◌<◌, ◌≤◌, true, List, [], ◌∷◌, length, take, slice_index}
use Rattle.std.specs.Prelude.{IfErr, OnOk, Option, None, Some, Result, Ok, Err}
use Rattle.std.specs.Io.KnownBytes.{Appends}
use Rattle.gft_base.specs.Words.{Rose}
use Rattle.gft_range.specs.declared.Range.{Range}
use Rattle.gft_drive.specs.Words.{DriveState, Image, Unchanged}
use Rattle.gft_outside.specs.Words.{OutLaneState}
use Rattle.gft_pass.specs.declared.Cause.{Cause}
use Rattle.gft_pass.specs.declared.Cause.TheVariants.{DriveFailed, Hole, LinkFailed, Memory}

-- ---- the file

-- the drive may have this file: where it tells its bytes, they are these
abbrev pub MayHave : Option Image → List ℕ → Type 0
MayHave contents file = (image : Image) → contents ≡ Some image → file ≡ image.bytes

-- the file has each of these places
abbrev pub HasPlaces : (ℕ → Type 0) → List ℕ → Type 0
HasPlaces places file = (x : ℕ) → places x → x < length file

-- the drive has them, where it tells its bytes
abbrev pub MustHave : Option Image → (ℕ → Type 0) → Type 0
MustHave contents places = (image : Image) → contents ≡ Some image → HasPlaces places image.bytes

-- ---- what went out

-- all these bytes were put, or a part of them from the front
abbrev pub GoesOut : {T E : Type 0} → Result T E → List ℕ → OutLaneState → OutLaneState → Type 0
GoesOut (Ok value) bytes old new = Appends old.written new.written bytes
GoesOut (Err error) bytes old new = (count : ℕ) × Appends old.written new.written (take count bytes)

-- such bytes of a file that the drive may have went out; the file is the one before, but at these places
pub record Carries {T E : Type 0} (contents : Option Image) (places : ℕ → Type 0)
    (bytes_of : List ℕ → List ℕ) (result : Result T E) (old new : OutLaneState) (before : List ℕ)
    : Type 0 where
  pub file : List ℕ
  pub may : MayHave contents file
  pub long : length file ≡ length before
  pub same : (x : ℕ) → ¬ places x → slice_index file x ≡ slice_index before x
  pub goes : GoesOut result (bytes_of file) old new

-- ---- why it ended

-- the count of faults rose if the step ended with this cause, and is else as it was
abbrev pub CountsFaults : {T : Type 0} → Cause → Result T Cause → ℕ → ℕ → Type 0
CountsFaults cause (Ok value) before now = now ≡ before
CountsFaults cause (Err error) before now =
    ((error ≡ cause) × (before ≤ now) × Rose before now) ⊎ ((error ≢ cause) × (now ≡ before))

-- what is left of a range, some of it
pub record IsRestOf (range rest : Range) : Type 0 where
  pub from : range.start ≤ rest.start
  pub some : rest.start < rest.end
  pub to : rest.end ≡ range.end

-- of a range of the list
abbrev pub HasRest : List Range → Range → Type 0
HasRest [] rest = ⊥
HasRest (r ∷ rs) rest = IsRestOf r rest ⊎ HasRest rs rest

-- a call to the outside failed, memory was refused, or the drive, which doesn't tell its bytes, gave none
-- at a place that is to be sent
abbrev pub IsSendCause : Option Image → (Range → Type 0) → Cause → Type 0
IsSendCause contents Left LinkFailed = Unit {0}
IsSendCause contents Left DriveFailed = Unit {0}
IsSendCause contents Left Memory = Unit {0}
IsSendCause contents Left (Hole total eods missing) =
    (contents ≡ None) × (total ≡ None) × (eods ≡ 0) × ((rest : Range) × (missing ≡ Some rest) × Left rest)
IsSendCause contents Left _ = ⊥

-- ---- a step

-- where a piece from the front of a range ends: the answer says how many bytes it has
abbrev pub end_of_piece : Range → Result ℕ Cause → ℕ
end_of_piece left (Ok count) = left.start + count
end_of_piece left (Err cause) = left.end

-- bytes of a file went out, of which these places were read; the drive is as it was, and the counts and the
-- cause show why the step ended where it did
pub record Sends {T : Type 0} (places : ℕ → Type 0) (Left : Range → Type 0) (bytes_of : List ℕ → List ℕ)
    (result : Result T Cause) (drive looked : DriveState) (old new : OutLaneState) : Type 0 where
  pub carries : (file : List ℕ) → MayHave drive.contents file → HasPlaces places file
      → Carries drive.contents places bytes_of result old new file
  pub is_open : OnOk result (new.is_open ≡ true)
  pub unchanged : Unchanged drive looked
  pub drive_faults : CountsFaults DriveFailed result drive.faults looked.faults
  pub out_faults : CountsFaults LinkFailed result old.faults new.faults
  pub cause : IfErr result (IsSendCause drive.contents Left)
