-- A file while the missing parts of a block are written.
use Rattle.std.specs.Prelude.{◌≡◌, ℕ, ◌+◌, ◌<◌, ◌≤◌, ◌⊎◌, List, length, slice_index, Some}
use Rattle.gft_base.specs.declared.TheConstants.{LIMIT}
use Rattle.gft_range.specs.declared.Range.{Range}
use Rattle.gft_range.specs.Words.{IsNormal, InRange, HasOffset}
use Rattle.gft_drive.specs.Words.{DriveState, Image}

-- the file has each offset of the set
abbrev pub HoldsAll : List Range → List ℕ → Type 0
HoldsAll set file = (x : ℕ) → HasOffset set x → x < length file

-- what a read gives has each offset of the set
abbrev pub AreThere : List Range → DriveState → Type 0
AreThere set drive = (read : Image) → drive.contents ≡ Some read → HoldsAll set read.bytes

-- the bytes are those of the block, which ends in the limit
pub record FillsBlock (block : Range) (bytes : List ℕ) : Type 0 where
  pub size : block.start + length bytes ≡ block.end
  pub in_limit : block.end ≤ LIMIT

-- these parts of the block are left to write
pub record AreLeft (set : List Range) (block : Range) (left : List Range) : Type 0 where
  pub normal : IsNormal left
  pub within : (x : ℕ) → HasOffset left x → InRange block x × ¬ HasOffset set x

-- the bytes of the set stay, and the file is no shorter
pub record KeepsBytes (set : List Range) (old now : List ℕ) : Type 0 where
  pub kept : (x : ℕ) → HasOffset set x → x < length old → slice_index now x ≡ slice_index old x
  pub longer : length old ≤ length now

-- the parts of the block that are not left to write have the block's bytes, and kept bytes stay
pub record Writing (set : List Range) (block : Range) (bytes : List ℕ) (left : List Range)
    (old now : List ℕ) : Type 0 where
  pub kept : (x : ℕ) → HasOffset set x → slice_index now x ≡ slice_index old x
  pub added : (k : ℕ) → k < length bytes → ¬ HasOffset set (block.start + k)
      → HasOffset left (block.start + k)
      ⊎ ((slice_index now (block.start + k) ≡ slice_index bytes k) × (block.start + k < length now))
  pub longer : length old ≤ length now

-- each byte of the set stays, and each other offset of the block has the block's byte
pub record Fills (set : List Range) (block : Range) (bytes old new : List ℕ) : Type 0 where
  pub kept : (x : ℕ) → HasOffset set x → slice_index new x ≡ slice_index old x
  pub added : (k : ℕ) → k < length bytes → ¬ HasOffset set (block.start + k)
      → slice_index new (block.start + k) ≡ slice_index bytes k
  pub size : (x : ℕ) → HasOffset set x → x < length new
  pub reaches : (k : ℕ) → k < length bytes → ¬ HasOffset set (block.start + k)
      → block.start + k < length new
