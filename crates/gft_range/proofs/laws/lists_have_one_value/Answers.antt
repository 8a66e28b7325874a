use Rattle.gft_range.proofs.ListLemmas.{IsList-one, IsList-few, IsList-text}
use Rattle.gft_range.proofs.laws.lists_have_one_value.Goals as goal

pub returns-clause-one : goal.returns-clause-one
returns-clause-one c = IsList-one

pub returns-clause-few : goal.returns-clause-few
returns-clause-few c = IsList-few

pub returns-clause-written : goal.returns-clause-written
returns-clause-written c = IsList-text
