use Rattle.gft_command.specs.Telnet.{telnet_text}
use Rattle.gft_command.proofs.LawLemmas.{line_taken, one, one_line_refusal, said_fits}
use Rattle.gft_command.proofs.laws.commands_have_one_value.Goals as goal

pub returns-clause-one : goal.returns-clause-one
returns-clause-one c = λ line. one (telnet_text line)

pub returns-clause-taken : goal.returns-clause-taken
returns-clause-taken c = line_taken

pub returns-clause-refused : goal.returns-clause-refused
returns-clause-refused c = one_line_refusal

pub returns-clause-fits : goal.returns-clause-fits
returns-clause-fits c = λ line. said_fits (telnet_text line)
