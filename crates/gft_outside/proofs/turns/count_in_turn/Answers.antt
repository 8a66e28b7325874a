use Rattle.std.proofs.Common.{sym}
use Rattle.gft_outside.proofs.TurnLemmas.{front_step}
use Rattle.gft_outside.proofs.turns.count_in_turn.Goals as goal

pub loop-i-preserved : goal.loop-i-preserved
loop-i-preserved c = front_step c.args.items.now c.loop-i.i c.index-items-i.result c.loop-i-test.true c.index-items-i.is (sym c.if-not-is_next.ensures) c.loop-i.invariant
