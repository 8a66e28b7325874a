use Rattle.std.proofs.Common.{◌≡◌, true}
use Rattle.gft_send.proofs.BlockLemmas.{HasPut}
use Rattle.gft_send.proofs.block.send_blocks.Given as goal

abbrev pub invariant-loop-range : goal.invariant-loop-range
invariant-loop-range g l = record {
  can : (goal.iterator-loop-range g).can_next l.range-iterator;
  finite : (goal.iterator-loop-range g).is_finite l.range-iterator;
  is_open : (g.X.OutLane.state l.out).is_open ≡ true;
  put : HasPut l.fn.ranges l.range-iterator l.sent (g.D.Drive.state l.initial.drive) (g.D.Drive.state l.drive) (g.X.OutLane.state l.initial.out) (g.X.OutLane.state l.out);
}
