use Rattle.gft_base.proofs.Lemmas.{IsNumber-decimal, IsNumber-one}
use Rattle.gft_text.proofs.laws.numbers_have_one_value.Goals as goal

pub returns-clause-written : goal.returns-clause-written
returns-clause-written c = IsNumber-decimal

pub returns-clause-one : goal.returns-clause-one
returns-clause-one c = IsNumber-one
