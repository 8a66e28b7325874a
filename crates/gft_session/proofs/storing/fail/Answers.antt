use Rattle.std.proofs.Common.{refl}
use Rattle.gft_session.proofs.StoringLemmas.{aborts, aborts_stopped, fails_once}
use Rattle.gft_session.proofs.storing.fail.Goals as goal

pub returns-in_default : goal.returns-in_default
returns-in_default g c = record {
  puts = fails_once c.args.cause c.say.result _ _ c.in_default.not-Aborted c.say.ensures.puts;
  «open» = c.say.ensures.open;
  stopped = c.say.ensures.stopped;
}

pub returns-in-Err-clause-puts : goal.returns-in-Err-clause-puts
returns-in-Err-clause-puts g c = aborts_stopped c.args.cause c.in-Err.stopped c.say-2.result _ _ c.in-Aborted.is c.in-Err.is c.say-2.ensures.puts

pub returns-clause-puts : goal.returns-clause-puts
returns-clause-puts g c = aborts c.args.cause c.say-2.result c.say-3.result _ _ _ c.in-Aborted.is (rw c.in-Ok.is refl) c.say-2.ensures.puts c.say-3.ensures.puts
