-- What the calls of a keep but `store` do to it.
use Rattle.std.specs.Prelude.{◌≡◌, ◌≢◌, ℕ, List, [], Some, None, true}
use Rattle.gft_base.specs.Words.{Rose}
use Rattle.gft_drive.specs.Words.{DriveState, Image, ReadsBy, Unchanged}
use Rattle.gft_journal.specs.Words.{Rests}
use Rattle.gft_journal.specs.declared.AttachError.{AttachError}
use Rattle.gft_journal.specs.declared.AttachError.TheVariants.{Failed, Damaged}
use Rattle.gft_journal.specs.declared.Damage.{Damage}
use Rattle.gft_keep.specs.declared.standing.Standing.{Standing}
use Rattle.gft_keep.specs.Image.{IsDamagedBy, IsSound}
use Rattle.gft_keep.specs.Keep.{IsKeep}
use Rattle.gft_keep.specs.State.{IsWhole, KeepState, once_failed}
use Rattle.gft_keep.specs.Steps.{HasFinished, IsEmpty, Reopens}

-- a drive became a keep of what a read gives, and each image stays as it was
pub record Attached (old : DriveState) (new : KeepState) : Type 0 where
  pub keep : IsKeep new
  pub whole : IsWhole new
  pub read : new.drive.contents ≡ old.contents
  pub rests : Rests old new.drive
  pub faults : new.drive.faults ≡ old.faults

-- only a failed drive raises the count of faults
abbrev pub CountsFault : AttachError → ℕ → ℕ → Type 0
CountsFault Failed before now = Rose before now
CountsFault other before now = now ≡ before

-- a drive is no keep, and comes back with each image as it was
pub record NotAttached (old : DriveState) (error : AttachError) (new : DriveState) : Type 0 where
  pub rests : Rests old new
  pub cause : CountsFault error old.faults new.faults
  -- a damage is the first of what a read gives, and there is none if that is sound
  pub damage : (damage : Damage) → error ≡ Damaged damage → (read : Image) → old.contents ≡ Some read
      → IsDamagedBy damage read
  pub sound : (read : Image) → old.contents ≡ Some read → IsSound read → (damage : Damage)
      → error ≢ Damaged damage

-- what is kept in memory stays
pub record SameKept (old new : KeepState) : Type 0 where
  pub ranges : new.ranges ≡ old.ranges
  pub complete : new.complete ≡ old.complete
  pub is_born : new.is_born ≡ old.is_born

-- the keep stands on what a read gives
pub record Reattached (old new : KeepState) : Type 0 where
  pub whole : IsWhole new
  pub read : new.drive.contents ≡ old.drive.contents

-- the keep is broken, and shows what it kept before; a drive that tells its contents is not damaged
pub record NotReattached (old new : KeepState) (error : AttachError) : Type 0 where
  pub standing : new.standing ≡ once_failed old.standing
  pub same : SameKept old new
  pub undamaged : (damage : Damage) → error ≡ Damaged damage → old.drive.contents ≡ None

-- a call that only looks
pub record OnlyLooks (old new : KeepState) : Type 0 where
  pub keep : IsKeep old → IsKeep new
  pub whole : IsWhole new
  pub same : SameKept old new
  pub drive : Unchanged old.drive new.drive

-- nothing is kept, and the file has no byte
pub record Emptied (old new : KeepState) : Type 0 where
  pub whole : IsWhole new
  pub none : new.ranges ≡ []
  pub incomplete : new.complete ≡ None
  pub born : new.is_born ≡ true
  pub read : ReadsBy IsEmpty old.drive new.drive

-- the file takes blocks again
pub record Reopened (old new : KeepState) : Type 0 where
  pub whole : IsWhole new
  pub ranges : new.ranges ≡ old.ranges
  pub incomplete : new.complete ≡ None
  pub born : new.is_born ≡ true
  pub read : ReadsBy Reopens old.drive new.drive

-- the file is complete with this length, and what is kept stays
pub record Finished (len : ℕ) (old new : KeepState) : Type 0 where
  pub whole : IsWhole new
  pub ranges : new.ranges ≡ old.ranges
  pub complete : new.complete ≡ Some len
  pub born : new.is_born ≡ old.is_born
  pub read : ReadsBy (HasFinished len) old.drive new.drive

-- a change failed: the keep is broken so, and shows what it kept before
pub record Broke (how : Standing) (old new : KeepState) : Type 0 where
  pub standing : new.standing ≡ how
  pub same : SameKept old new
