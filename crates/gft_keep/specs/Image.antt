-- What an image of a drive stands for.
use Rattle.std.specs.Prelude.{◌≡◌, ◌↔◌, ◌⊎◌, ℕ, ◌-◌, ◌<◌, ◌≤◌, List, length, slice_index}
use Rattle.gft_range.specs.declared.Range.{Range}
use Rattle.gft_range.specs.Words.{HasOffset, IsNormal}
use Rattle.gft_drive.specs.declared.TheConstants.{MAX_RANGES}
use Rattle.gft_drive.specs.Words.{Covers, Image, IsComplete, IsIntact}
use Rattle.gft_journal.specs.Words.{FirstDamage}
use Rattle.gft_journal.specs.declared.Damage.{Damage}
use Rattle.gft_journal.specs.declared.Damage.TheVariants.{Short}

-- the offset is among the image's ranges, and this is the byte of its data there
pub record Holds (image : Image) (x v : ℕ) : Type 0 where
  pub covered : Covers image.ranges x
  pub within : x < length image.bytes
  pub byte : slice_index image.bytes x ≡ v

-- the normal list of the part's ranges is short enough for a file
pub record HasFewRanges (xs : List ℕ) : Type 0 where
  pub set : List Range
  pub normal : IsNormal set
  pub offsets : (x : ℕ) → HasOffset set x ↔ Covers xs x
  pub few : length set ≤ MAX_RANGES

-- no damage: the journal can be read, and the data has each kept offset and the complete length
pub record IsSound (image : Image) : Type 0 where
  pub intact : IsIntact image.ranges
  pub few : HasFewRanges image.ranges
  pub within : (x : ℕ) → Covers image.ranges x → x < length image.bytes
  pub complete : (len : ℕ) → IsComplete image.ranges len → len ≤ length image.bytes

-- the greatest kept end or the complete length, whichever is more; 0 if there is neither
pub record ReachesTo (image : Image) (end : ℕ) : Type 0 where
  pub ranges : (x : ℕ) → Covers image.ranges x → x < end
  pub complete : (len : ℕ) → IsComplete image.ranges len → len ≤ end
  pub reached : (end ≡ 0) ⊎ (Covers image.ranges (end - 1) ⊎ IsComplete image.ranges end)

-- the data is shorter than what is kept of it, and the journal has no damage
pub record IsShort (image : Image) (end len : ℕ) : Type 0 where
  pub intact : IsIntact image.ranges
  pub few : HasFewRanges image.ranges
  pub reaches : ReachesTo image end
  pub size : len ≡ length image.bytes
  pub short : len < end

-- the damage that is met first: the journal's, and then data that is too short
abbrev pub IsDamagedBy : Damage → Image → Type 0
IsDamagedBy (Short end len) image = IsShort image end len
IsDamagedBy other image = FirstDamage other image.ranges
