use Rattle.gft_text.proofs.NameLemmas.{names, faults, written, one}
use Rattle.gft_text.proofs.laws.names_have_one_value.Goals as goal

pub returns-clause-names : goal.returns-clause-names
returns-clause-names c = names

pub returns-clause-faults : goal.returns-clause-faults
returns-clause-faults c = faults

pub returns-clause-written : goal.returns-clause-written
returns-clause-written c = written

pub returns-clause-one : goal.returns-clause-one
returns-clause-one c = one
