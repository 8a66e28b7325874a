use Rattle.gft_opts.proofs.RetrLemmas.{written, fits, one}
use Rattle.gft_opts.proofs.laws.retr_has_one_value.Goals as goal

pub returns-clause-written : goal.returns-clause-written
returns-clause-written c = written

pub returns-clause-fits : goal.returns-clause-fits
returns-clause-fits c = fits

pub returns-clause-one : goal.returns-clause-one
returns-clause-one c = one
