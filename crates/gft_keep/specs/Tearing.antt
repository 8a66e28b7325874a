-- What each image is since a call on a whole keep began, by what a read gave then.
use Rattle.std.specs.Prelude.{◌≡◌, ◌⊎◌, ◌↔◌, ◌<◌, ◌≤◌, ℕ, ◌-◌}
use Rattle.std.specs.Prelude.{◌+◌, List, Some, None, true, length, slice_index}
use Rattle.gft_base.specs.declared.TheConstants.{LIMIT}
use Rattle.gft_range.specs.declared.Range.{Range}
use Rattle.gft_range.specs.Words.{HasOffset, InRange, IsUnion}
use Rattle.gft_drive.specs.declared.TheConstants.{MAX_RANGES}
use Rattle.gft_drive.specs.Words.{Covers, DriveState, Elapses, Image, ReadsBy}
use Rattle.gft_journal.specs.declared.Journal.{Journal}
use Rattle.gft_keep.specs.declared.standing.Standing.TheVariants.{Whole}
use Rattle.gft_keep.specs.Image.{Holds, IsSound}
use Rattle.gft_keep.specs.Keep.{StandsWhole}
use Rattle.gft_keep.specs.State.{KeepState}
use Rattle.gft_keep.specs.Steps.{CompletesNothing, Stores, block_of}
use Rattle.gft_keep.specs.Store.{IsNewCount}

-- the image holds each offset of the set with the byte that was read there; what else it names is of
-- this block
pub record TornFrom (set : List Range) (offset : ℕ) (bytes : List ℕ) (read image : Image) : Type 0 where
  pub sound : IsSound image
  pub kept : (x : ℕ) → HasOffset set x → Holds image x (slice_index read.bytes x)
  pub added : (x : ℕ) → Covers image.ranges x → HasOffset set x
      ⊎ (InRange (block_of offset bytes) x × Holds image x (slice_index bytes (x - offset)))

-- and it is complete, or not born, only as before
pub record TornOpen (set : List Range) (offset : ℕ) (bytes : List ℕ) (read image : Image) : Type 0 where
  pub torn : TornFrom set offset bytes read image
  pub completes : CompletesNothing read image

-- time goes on, and each image since the call began is so
pub record EachSince (P : Image → Image → Type 0) (old new : DriveState) : Type 0 where
  pub time : Elapses old new
  pub each : (read : Image) → old.contents ≡ Some read → (image : Image) → new.left_since old.moment image
      → P read image

-- a whole keep of these parts that takes blocks
abbrev pub open_keep : DriveState → List Range → Journal → KeepState
open_keep drive set journal = record {
  drive = drive;
  ranges = set;
  complete = None;
  is_born = true;
  standing = Whole;
  journal = journal;
}

-- the ranges of what a read gives are those of the set, which a journal may change over to
pub record NamesSet (set : List Range) (drive : DriveState) : Type 0 where
  pub few : length set ≤ MAX_RANGES
  pub in_limit : (x : ℕ) → HasOffset set x → x < LIMIT
  pub ranges : (read : Image) → drive.contents ≡ Some read
      → (x : ℕ) → Covers read.ranges x ↔ HasOffset set x

-- the union with the block is short enough for a file
abbrev pub HasFitUnion : List Range → Range → Type 0
HasFitUnion set block = (union : List Range) → IsUnion set block union → length union ≤ MAX_RANGES

-- the block is stored as far as it was not kept: a whole keep of the union is left, and the answer is how
-- many bytes are new
pub record StoresBlock (set : List Range) (block : Range) (bytes : List ℕ) (journal : Journal)
    (old new : DriveState) (answer : ℕ) : Type 0 where
  pub stands : (union : List Range) → IsUnion set block union
      → StandsWhole (open_keep new union journal)
  pub read : ReadsBy (Stores block.start bytes) old new
  pub count : IsNewCount set block answer
