use Rattle.std.proofs.Common.{ap, ◌∙◌}
use Rattle.gft_drive.specs.declared.disk.Step.TheVariants.{Cut}
use Rattle.gft_drive.proofs.Crashes.{done_or_not, cut_leaves}
use Rattle.gft_drive.proofs.memory.MemoryDriveDrive.cut.Goals as goal

pub returns-clause-crash : goal.returns-clause-crash
returns-clause-crash c =
    let old = c.args.self.now.disk in
    let label = c.args.self.now.label in
    let faults = c.args.self.now.faults in
    cut_leaves label label old c.told.new.self.disk faults faults c.args.part c.args.len
    (done_or_not c.cut-done.result (Cut c.args.part c.args.len) old c.self.inside.disk c.cut-done.new.self c.told.new.self.disk c.cut-done.ensures.done c.cut-done.ensures.failed (ap (λ m. m.disk) c.self.view_is ∙ c.begin.ensures.disk) c.told.ensures.disk)
