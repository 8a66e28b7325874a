-- What opening a drive finds.
use Rattle.std.specs.Prelude.{◌≡◌, ◌≤◌, ◌<◌, ◌⊎◌, ℕ, ◌-◌, List, Option, Some, IfSome, length}
use Rattle.gft_base.specs.declared.TheConstants.{LIMIT}
use Rattle.gft_range.specs.declared.Range.{Range}
use Rattle.gft_range.specs.Words.{HasOffset, IsNormal}
use Rattle.gft_drive.specs.declared.Part.TheVariants.{Bytes}
use Rattle.gft_drive.specs.Words.{DriveState, Image, IsSynced}
use Rattle.gft_journal.specs.Words.{Finds, FoundOn, IsJournalOf, WhereTold}
use Rattle.gft_journal.specs.declared.AttachError.{AttachError}
use Rattle.gft_journal.specs.declared.AttachError.TheVariants.{Damaged}
use Rattle.gft_journal.specs.declared.Damage.{Damage}
use Rattle.gft_journal.specs.declared.Found.{Found}
use Rattle.gft_keep.specs.Image.{IsDamagedBy, IsSound}

-- a drive is attached, and what a read gives has no damage
pub record Opens (old new : DriveState) (found : Found) : Type 0 where
  pub is : FoundOn old new found
  pub normal : IsNormal found.set.ranges
  pub sound : (read : Image) → old.contents ≡ Some read → IsSound read

-- a damage is the first of what a read gives
abbrev pub ShowsDamage : DriveState → AttachError → Type 0
ShowsDamage drive error =
    (damage : Damage) → error ≡ Damaged damage → (read : Image) → drive.contents ≡ Some read
    → IsDamagedBy damage read

-- the greatest end of the ranges or the complete length, whichever is more; 0 if there is neither
pub record IsReach (set : List Range) (complete : Option ℕ) (end : ℕ) : Type 0 where
  pub normal : IsNormal set
  pub ranges : (x : ℕ) → HasOffset set x → x < end
  pub mark : IfSome complete (λ len. len ≤ end)
  pub reached : (end ≡ 0) ⊎ (HasOffset set (end - 1) ⊎ (complete ≡ Some end))
