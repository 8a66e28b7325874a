use Rattle.gft_opts.proofs.PartLemmas.{esto_fits, esto_one, esto_written}
use Rattle.gft_opts.proofs.laws.esto_has_one_value.Goals as goal

pub returns-clause-written : goal.returns-clause-written
returns-clause-written c = esto_written

pub returns-clause-fits : goal.returns-clause-fits
returns-clause-fits c = esto_fits

pub returns-clause-one : goal.returns-clause-one
returns-clause-one c = esto_one
