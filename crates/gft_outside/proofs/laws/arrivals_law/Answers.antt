use Rattle.gft_outside.proofs.ArrivalLemmas.{cuts, one_channel}
use Rattle.gft_outside.proofs.laws.arrivals_law.Goals as goal

pub returns-clause-cuts : goal.returns-clause-cuts
returns-clause-cuts c = cuts

pub returns-clause-one_channel : goal.returns-clause-one_channel
returns-clause-one_channel c = one_channel
