-- What a keep keeps, byte by byte, and a change of it after which all that was kept is.
use Rattle.std.specs.Prelude.{◌≡◌, ℕ, ◌-◌, ◌^◌, ◌≤◌, min, slice_get, Option, Some, None, IsSome}
use Rattle.gft_range.specs.Words.{HasOffset}
use Rattle.gft_drive.specs.Words.{Elapses, Image}
use Rattle.gft_keep.specs.Words.{KeepState, MovesBy}
use Rattle.gft_core.specs.Words.{held}

-- the byte at x of what a read gives, if the drive tells it
abbrev pub byte_read : Option Image → ℕ → Option ℕ
byte_read (Some image) x = slice_get image.bytes x
byte_read None x = None

-- the offset is kept, and a read gives this byte there
abbrev pub KeepsByte : KeepState → ℕ → ℕ → Type 0
KeepsByte keep x v = HasOffset keep.ranges x × (byte_read keep.drive.contents x ≡ Some v)

-- each image since then holds each byte that was kept then
abbrev pub HoldsKept : KeepState → KeepState → Type 0
HoldsKept old new =
    IsSome old.drive.contents → (image : Image) → new.drive.left_since old.drive.moment image
    → (x v : ℕ) → KeepsByte old x v → held image x ≡ Some v

-- a count of faults never falls, as far as its type goes
abbrev pub NeverFalls : ℕ → ℕ → Type 0
NeverFalls before now = min before (2 ^ 64 - 1) ≤ now

-- time goes on, and what was kept is, as in each image since
pub record Keeps (old new : KeepState) : Type 0 where
  pub time : Elapses old.drive new.drive
  pub counted : NeverFalls old.drive.faults new.drive.faults
  pub ranges : (x : ℕ) → HasOffset old.ranges x → HasOffset new.ranges x
  pub held : HoldsKept old new

-- and each image since came by this step
pub record KeepsThrough (step : Image → Image → Type 0) (old new : KeepState) : Type 0 where
  pub keeps : Keeps old new
  pub moves : MovesBy step old new
