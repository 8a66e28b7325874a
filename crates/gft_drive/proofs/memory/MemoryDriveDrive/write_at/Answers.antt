use Rattle.std.proofs.Common.{ℕ, List, length, true, false, ap, subst, ◌∙◌}
use Rattle.gft_drive.specs.Drive.{Leaves}
use Rattle.gft_drive.specs.Write.{Torn}
use Rattle.gft_drive.specs.Replay.{state_after}
use Rattle.gft_drive.specs.declared.disk.Step.TheVariants.{Write}
use Rattle.gft_drive.proofs.Crashes.{done_or_not, more_or_same, write_leaves, write_reads}
use Rattle.gft_drive.proofs.memory.MemoryDriveDrive.write_at.Goals as goal

pub returns-then-reaches-clause-crash : goal.returns-then-reaches-clause-crash
returns-then-reaches-clause-crash c =
    let old = c.args.self.now.disk in
    let label = c.args.self.now.label in
    let faults = c.args.self.now.faults in
    subst (λ (b : List ℕ). Leaves c.args.part (Torn c.args.at (length b)) (state_after label old faults) (state_after label c.lose.new.self faults)) c.in-Ok.ensures.items
    (write_leaves label label old c.lose.new.self faults faults c.args.part c.args.at c.in-Ok.kept false
    (more_or_same (Write c.args.part c.args.at c.in-Ok.kept false) old c.self-2.inside.disk c.lose.new.self c.lose.ensures (ap (λ m. m.disk) c.self-2.view_is ∙ c.begin.ensures.disk)))

pub returns-clause-written : goal.returns-clause-written
returns-clause-written c =
    let old = c.args.self.now.disk in
    let label = c.args.self.now.label in
    let faults = c.args.self.now.faults in
    write_reads c.told.result c.write-done.result label label old c.self-2.inside.disk c.write-done.new.self c.told.new.self.disk faults faults c.args.part c.args.at c.in-Ok.kept c.args.bytes.now
    c.told.ensures.variant.0 c.write-done.ensures.done (ap (λ m. m.disk) c.self-2.view_is ∙ c.begin.ensures.disk) c.told.ensures.disk c.in-Ok.ensures.items

pub returns-clause-crash : goal.returns-clause-crash
returns-clause-crash c =
    let old = c.args.self.now.disk in
    let label = c.args.self.now.label in
    let faults = c.args.self.now.faults in
    subst (λ (b : List ℕ). Leaves c.args.part (Torn c.args.at (length b)) (state_after label old faults) (state_after label c.told.new.self.disk faults)) c.in-Ok.ensures.items
    (write_leaves label label old c.told.new.self.disk faults faults c.args.part c.args.at c.in-Ok.kept true
    (done_or_not c.write-done.result (Write c.args.part c.args.at c.in-Ok.kept true) old c.self-2.inside.disk c.write-done.new.self c.told.new.self.disk c.write-done.ensures.done c.write-done.ensures.failed
    (ap (λ m. m.disk) c.self-2.view_is ∙ c.begin.ensures.disk) c.told.ensures.disk))
