use Rattle.std.proofs.Common.{arith}
use Rattle.gft_receive.proofs.TableLemmas.{never_live_below}
use Rattle.gft_receive.proofs.channels.place_of.Goals as goal

pub returns-clause-none : goal.returns-clause-none
returns-clause-none c = never_live_below c.args.table.now c.args.channel c.loop-i.i (omega (arith, c.loop-i-test.false, c.loop-i.auto.i-end)) c.loop-i.invariant
