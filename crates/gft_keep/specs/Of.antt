-- The drive and the state of a keep.
use Rattle.gft_drive.specs.Words.{DriveState}
use Rattle.gft_keep.specs.State.{KeepState}
use Rattle.gft_keep.specs.declared.keep.Keep.{Keep}

abbrev pub drive_of : {D : Type 0} → Keep D → D
drive_of keep = keep.drive

-- the state of a keep, by that of its drive
abbrev pub keep_of : {D : Type 0} → (D → DriveState) → Keep D → KeepState
keep_of state keep = record {
  drive = state (drive_of keep);
  ranges = keep.set.ranges;
  complete = keep.complete;
  is_born = keep.born;
  standing = keep.standing;
  journal = keep.journal;
}
