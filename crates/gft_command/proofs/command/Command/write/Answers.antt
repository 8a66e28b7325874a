use Rattle.gft_command.proofs.RowLemmas.{sent}
use Rattle.gft_command.proofs.command.Command.write.Goals as goal

pub returns-clause-read_again : goal.returns-clause-read_again
returns-clause-read_again c = sent _ _ c.args.self.now c.in_ok-line.ensures c.in_ok-text.ensures
