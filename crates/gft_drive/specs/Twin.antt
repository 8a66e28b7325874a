-- A second drive beside the first, and when none is given.
use Rattle.std.specs.Prelude.{◌≡◌, ◌≤◌, ℕ, Result, IsErrOf}
use Rattle.gft_base.specs.Words.{Rose}
use Rattle.gft_drive.specs.Drive.{DriveState, IsSynced}
use Rattle.gft_drive.specs.declared.drive.Part.{Part}
use Rattle.gft_drive.specs.declared.error.TwinError.{TwinError}
use Rattle.gft_drive.specs.declared.error.TwinError.TheVariants.{Failed}

-- it reads what the drive reads under the same label, a crash leaves that of it, and no call of it failed
pub record IsTwin (drive twin : DriveState) : Type 0 where
  pub label : twin.label ≡ drive.label
  pub read : twin.contents ≡ drive.contents
  pub synced : (part : Part) → IsSynced part twin
  pub faults : twin.faults ≡ 0

-- only a failed drive raises the count of faults
pub record HasTwinCause {T : Type 0} (before now : ℕ) (result : Result T TwinError) : Type 0 where
  pub later : before ≤ now
  pub kept : ¬ IsErrOf result Failed → now ≡ before
  pub failed : IsErrOf result Failed → Rose before now
