-- What contracts see of a keep.
use Rattle.std.specs.Prelude.{◌≡◌, ℕ, List, Bool, Option, IsSome}
use Rattle.gft_range.specs.declared.Range.{Range}
use Rattle.gft_drive.specs.Words.{DriveState, Image, MayLeave}
use Rattle.gft_journal.specs.declared.Journal.{Journal}
use Rattle.gft_keep.specs.declared.standing.Standing.{Standing}
use Rattle.gft_keep.specs.declared.standing.Standing.TheVariants.{Whole, Emptying, Torn}

pub record KeepState : Type 1 where
  pub drive : DriveState
  -- the kept ranges, as their normal list; of a broken keep those of before the call that broke it
  pub ranges : List Range
  -- the length of a complete file
  pub complete : Option ℕ
  pub is_born : Bool
  pub standing : Standing
  -- of a broken keep it stands for nothing
  pub journal : Journal

-- how a keep stands once a call but `fresh` failed
abbrev pub once_failed : Standing → Standing
once_failed Whole = Torn
once_failed Emptying = Emptying
once_failed Torn = Torn

-- no change failed
abbrev pub IsWhole : KeepState → Type 0
IsWhole keep = keep.standing ≡ Whole

-- each image that a crash now may leave is so, if the drive tells its contents
abbrev pub EachImage : KeepState → (Image → Type 0) → Type 0
EachImage keep P = IsSome keep.drive.contents → (image : Image) → MayLeave keep.drive image → P image
