use Rattle.std.proofs.Common.{ap, ◌∙◌}
use Rattle.gft_drive.specs.declared.disk.Step.TheVariants.{Sync}
use Rattle.gft_drive.proofs.Crashes.{done_or_not, sync_leaves}
use Rattle.gft_drive.proofs.memory.MemoryDriveDrive.sync.Goals as goal

pub returns-clause-crash : goal.returns-clause-crash
returns-clause-crash c =
    let old = c.args.self.now.disk in
    let label = c.args.self.now.label in
    let faults = c.args.self.now.faults in
    sync_leaves label label old c.told.new.self.disk faults faults c.args.part
    (done_or_not c.sync-done.result (Sync c.args.part) old c.self.inside.disk c.sync-done.new.self c.told.new.self.disk c.sync-done.ensures.done c.sync-done.ensures.failed (ap (λ m. m.disk) c.self.view_is ∙ c.begin.ensures.disk) c.told.ensures.disk)
