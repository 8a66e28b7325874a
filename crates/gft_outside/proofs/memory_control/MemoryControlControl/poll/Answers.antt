use Rattle.std.proofs.Common.{ap}
use Rattle.gft_outside.specs.ControlScripts.{ControlList}
use Rattle.gft_outside.proofs.StateLemmas.{control_hears}
use Rattle.gft_outside.proofs.memory_control.MemoryControlControl.poll.Goals as goal

pub returns-in-Some-clause-hears : goal.returns-in-Some-clause-hears
returns-in-Some-clause-hears c =
    let new : ControlList = record { script = c.give.new.self; failing = c.begin.new.self; is_over = c.self.inside.is_over; faults = c.self.inside.faults } in
    control_hears c.args.self.now new c.self.inside.script _ (ap (λ (v : ControlList). v.script) c.self.view_is) c.in-Some.ensures.moves
