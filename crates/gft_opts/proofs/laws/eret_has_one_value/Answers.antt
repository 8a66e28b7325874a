use Rattle.gft_opts.proofs.PartLemmas.{eret_fits, eret_one, eret_written}
use Rattle.gft_opts.proofs.laws.eret_has_one_value.Goals as goal

pub returns-clause-written : goal.returns-clause-written
returns-clause-written c = eret_written

pub returns-clause-fits : goal.returns-clause-fits
returns-clause-fits c = eret_fits

pub returns-clause-one : goal.returns-clause-one
returns-clause-one c = eret_one
