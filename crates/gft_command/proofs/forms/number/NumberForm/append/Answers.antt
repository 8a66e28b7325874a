use Rattle.std.proofs.Common.{rules}
use Rattle.gft_base.proofs.Lemmas.{IsNumber-decimal}
use Rattle.gft_command.proofs.forms.number.NumberForm.append.Goals as goal

pub returns-clause-read : goal.returns-clause-read
returns-clause-read c = IsNumber-decimal c.args.value.now (search rules)
