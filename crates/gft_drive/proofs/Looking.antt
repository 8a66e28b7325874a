-- Calls that only look.
use Rattle.std.proofs.Common.{⊎_elim, sym, ◌∙◌, arith}
use Rattle.gft_drive.specs.Drive.{DriveState, IsLawful, Unchanged, IsSynced}
use Rattle.gft_drive.specs.declared.drive.Part.{Part}
use Rattle.gft_drive.proofs.Run.{elapses_trans}

-- one look after another
pub Unchanged-then : (old mid new : DriveState) → IsLawful mid → IsLawful new → Unchanged old mid → Unchanged mid new → Unchanged old new
Unchanged-then old mid new lawful_mid lawful_new first second = record {
  time = elapses_trans old mid new lawful_new first.time second.time;
  read = second.read ∙ first.read;
  no_more = λ image left. ⊎_elim
      (λ was. first.no_more image was)
      (λ during. first.no_more image (lawful_mid.since old.moment mid.moment image first.time.later (omega arith) (second.no_more image during)))
      (second.time.nothing_else old.moment image first.time.later left);
  no_fewer = λ image left. second.no_fewer image (first.no_fewer image left);
}

-- what is synced stays so under a look
pub synced_looked : (part : Part) (old new : DriveState) → IsLawful new → Unchanged old new → IsSynced part old → IsSynced part new
synced_looked part old new lawful looks synced read image told left =
    synced read image (sym looks.read ∙ told) (looks.no_more image (lawful.since old.moment new.moment image looks.time.later (omega arith) left))
