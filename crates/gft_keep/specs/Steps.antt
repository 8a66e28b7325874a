-- What the calls of a keep do to an image.
use Rattle.std.specs.Prelude.{◌≡◌, ◌⊎◌, ◌↔◌, ℕ, ◌+◌, ◌-◌, List, [], length, slice_index}
use Rattle.gft_range.specs.declared.Range.{Range}
use Rattle.gft_range.specs.Words.{InRange}
use Rattle.gft_drive.specs.Words.{Covers, Image, IsBorn, IsComplete}
use Rattle.gft_keep.specs.Image.{Holds}

-- the offsets of a block's bytes
abbrev pub block_of : ℕ → List ℕ → Range
block_of offset bytes = record { start = offset; end = offset + length bytes }

-- the file is complete, or not born, only if it was so, with this length and this data
pub record CompletesNothing (from image : Image) : Type 0 where
  pub complete : (len : ℕ) → IsComplete image.ranges len
      → IsComplete from.ranges len × (image.bytes ≡ from.bytes)
  pub unborn : ¬ IsBorn image.ranges → (¬ IsBorn from.ranges) × (image.bytes ≡ from.bytes)

-- what was held stays, and what else the ranges name is of the block, with the block's byte
pub record StoresSome (offset : ℕ) (bytes : List ℕ) (from image : Image) : Type 0 where
  pub kept : (x v : ℕ) → Holds from x v → Holds image x v
  pub added : (x : ℕ) → Covers image.ranges x → Covers from.ranges x
      ⊎ (InRange (block_of offset bytes) x × Holds image x (slice_index bytes (x - offset)))
  pub completes : CompletesNothing from image

-- and each offset of the block that was not named is held with the block's byte
pub record Stores (offset : ℕ) (bytes : List ℕ) (from image : Image) : Type 0 where
  pub some : StoresSome offset bytes from image
  pub all : (x : ℕ) → InRange (block_of offset bytes) x
      → Covers from.ranges x ⊎ Holds image x (slice_index bytes (x - offset))

-- the same offsets are held, with the same bytes
pub record StaysHeld (from image : Image) : Type 0 where
  pub ranges : (x : ℕ) → Covers image.ranges x ↔ Covers from.ranges x
  pub held : (x v : ℕ) → Holds from x v → Holds image x v

-- all that was held is, and the complete mark may be gone
pub record Reopens (from image : Image) : Type 0 where
  pub stays : StaysHeld from image
  pub completes : CompletesNothing from image

-- nothing is kept of a file that is begun
pub record NamesNone (image : Image) : Type 0 where
  pub ranges : (x : ℕ) → ¬ Covers image.ranges x
  pub complete : (len : ℕ) → ¬ IsComplete image.ranges len
  pub born : IsBorn image.ranges

-- all that was held is, or nothing is
abbrev pub Empties : Image → Image → Type 0
Empties from image = Reopens from image ⊎ NamesNone image

-- nothing is kept, and there is no data
pub record IsEmpty (from image : Image) : Type 0 where
  pub none : NamesNone image
  pub bytes : image.bytes ≡ []

-- all that was held is; the file is complete as before, or with this length and so much data
pub record Finishes (len : ℕ) (from image : Image) : Type 0 where
  pub stays : StaysHeld from image
  pub complete : (n : ℕ) → IsComplete image.ranges n
      → IsComplete from.ranges n ⊎ ((n ≡ len) × (length image.bytes ≡ len))
  pub born : IsBorn image.ranges ↔ IsBorn from.ranges

-- and the data has this length
pub record HasFinished (len : ℕ) (from image : Image) : Type 0 where
  pub finishes : Finishes len from image
  pub size : length image.bytes ≡ len
