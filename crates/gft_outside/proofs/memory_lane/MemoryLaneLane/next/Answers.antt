use Rattle.std.proofs.Common.{ap}
use Rattle.gft_outside.specs.LaneScripts.{LaneList}
use Rattle.gft_outside.proofs.StateLemmas.{lane_gives}
use Rattle.gft_outside.proofs.memory_lane.MemoryLaneLane.next.Goals as goal

pub returns-in-Some-clause-gives : goal.returns-in-Some-clause-gives
returns-in-Some-clause-gives c =
    let new : LaneList = record { script = c.give.new.self; failing = c.begin.new.self; is_done = c.self.inside.is_done; faults = c.self.inside.faults } in
    lane_gives c.args.self.now new c.self.inside.script _ (ap (λ (v : LaneList). v.script) c.self.view_is) c.in-Some.ensures.moves c.self.invariant.0
