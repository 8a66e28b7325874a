-- The state of a drive, and what its calls do to it.
use Rattle.std.specs.Prelude.{◌≡◌, ◌⊎◌, ◌↔◌, ℕ, ◌-◌, ◌≤◌, min, List, length, take, drop, Option, Some, IsSome}
use Rattle.std.specs.Prelude.{Result}
use Rattle.gft_base.specs.Words.{HasCause}
use Rattle.gft_drive.specs.Write.{Anything}
use Rattle.gft_drive.specs.declared.drive.Part.{Part}
use Rattle.gft_drive.specs.declared.drive.Part.TheVariants.{Bytes, Ranges}

-- the bytes of both parts
pub record Image : Type 0 where
  pub bytes : List ℕ
  pub ranges : List ℕ

abbrev pub part_of : Part → Image → List ℕ
part_of Bytes image = image.bytes
part_of Ranges image = image.ranges

abbrev pub other_part_of : Part → Image → List ℕ
other_part_of Bytes image = image.ranges
other_part_of Ranges image = image.bytes

pub record DriveState : Type 1 where
  pub label : List ℕ
  -- what a read gives; None if the drive doesn't tell it
  pub contents : Option Image
  -- the drive's clock, which never falls
  pub moment : ℕ
  -- the images that a crash at this moment, or at any later one so far, might have left
  pub left_since : ℕ → Image → Type 0
  -- how often a call failed
  pub faults : ℕ

-- a crash now may leave this image
abbrev pub MayLeave : DriveState → Image → Type 0
MayLeave drive image = drive.left_since drive.moment image

-- what holds of the state of every drive
pub record IsLawful (drive : DriveState) : Type 0 where
  -- what might have been left since a later moment might have been left since an earlier one
  pub since : (t u : ℕ) (image : Image) → t ≤ u → u ≤ drive.moment → drive.left_since u image
      → drive.left_since t image
  -- what a read gives is one of the images
  pub read : (image : Image) → drive.contents ≡ Some image → MayLeave drive image

-- a drive keeps its label, and tells its contents all its life or never
pub record Goes (old new : DriveState) : Type 0 where
  pub label : new.label ≡ old.label
  pub tells : IsSome new.contents ↔ IsSome old.contents

-- time goes on: the images since an earlier moment are those since it before the call, and those
-- since the call began
pub record Elapses (old new : DriveState) : Type 0 where
  pub goes : Goes old new
  pub later : old.moment ≤ new.moment
  pub nothing_else : (t : ℕ) (image : Image) → t ≤ old.moment → new.left_since t image
      → old.left_since t image ⊎ new.left_since old.moment image
  pub keeps : (t : ℕ) (image : Image) → t ≤ old.moment → old.left_since t image → new.left_since t image

-- a call that only looks
pub record Unchanged (old new : DriveState) : Type 0 where
  pub time : Elapses old new
  pub read : new.contents ≡ old.contents
  pub no_more : (image : Image) → new.left_since old.moment image → MayLeave old image
  pub no_fewer : (image : Image) → MayLeave old image → MayLeave new image

-- one part changes by this step, the other stays
pub record OnPart (part : Part) (step : List ℕ → List ℕ → Type 0) (old new : Image) : Type 0 where
  pub changed : step (part_of part old) (part_of part new)
  pub kept : other_part_of part new ≡ other_part_of part old

-- what a read gives changes by this step, if the drive tells it
abbrev pub ReadsBy : (Image → Image → Type 0) → DriveState → DriveState → Type 0
ReadsBy step old new =
    (from : Image) → old.contents ≡ Some from
    → (image : Image) × (new.contents ≡ Some image) × step from image

-- what a read of one part gives changes by this step, and the other part stays
abbrev pub Reads : Part → (List ℕ → List ℕ → Type 0) → DriveState → DriveState → Type 0
Reads part step old new = ReadsBy (OnPart part step) old new

-- each image that a crash since old might have left came by this step from one that it might have
-- left at old
abbrev pub LeavesBy : (Image → Image → Type 0) → DriveState → DriveState → Type 0
LeavesBy step old new =
    IsSome old.contents → (image : Image) → new.left_since old.moment image
    → (from : Image) × MayLeave old from × step from image

-- the images of one part come by this step, and the other part of each stays
abbrev pub Leaves : Part → (List ℕ → List ℕ → Type 0) → DriveState → DriveState → Type 0
Leaves part step old new = LeavesBy (OnPart part step) old new

-- a call that may change this part leaves the other, and has its time and its cause
pub record ChangesOnly {T E : Type 0} (part : Part) (old new : DriveState)
    (result : Result T E) : Type 0 where
  pub other : Reads part Anything old new
  pub time : Elapses old new
  pub cause : HasCause old.faults new.faults result

-- a crash leaves in this part what a read gives
abbrev pub IsSynced : Part → DriveState → Type 0
IsSynced part drive =
    (read image : Image) → drive.contents ≡ Some read → MayLeave drive image
    → part_of part image ≡ part_of part read

abbrev pub HasLength : Part → DriveState → ℕ → Type 0
HasLength part drive n =
    (image : Image) → drive.contents ≡ Some image → n ≡ length (part_of part image)

-- the first n bytes of the buffer are those from this place on, fewer than asked only at the end
abbrev pub HasRead : Part → ℕ → List ℕ → DriveState → ℕ → Type 0
HasRead part at buf drive n =
    (image : Image) → drive.contents ≡ Some image
    → (n ≡ min (length buf) (length (part_of part image) - at))
    × (take n buf ≡ take n (drop at (part_of part image)))
