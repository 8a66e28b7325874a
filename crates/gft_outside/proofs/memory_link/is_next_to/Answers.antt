use Rattle.gft_outside.proofs.LinkLemmas.{dial_to}
use Rattle.gft_outside.proofs.memory_link.is_next_to.Goals as goal

pub returns-in-Some : goal.returns-in-Some
returns-in-Some c = dial_to c.args.at.now c.args.dials.now c.in-Some.dial.now c.eq.result c.in-Some.ensures.value c.eq.ensures
