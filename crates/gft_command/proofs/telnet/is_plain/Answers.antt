use Rattle.gft_command.specs.Telnet.{telnet_escape}
use Rattle.gft_command.proofs.TelnetLemmas.{lacks_from, none_from, plain_same}
use Rattle.gft_command.proofs.telnet.is_plain.Goals as goal

pub returns-clause-plain : goal.returns-clause-plain
returns-clause-plain c = (
  lacks_from telnet_escape c.args.text.now c.find_byte.result c.is_none.result c.find_byte.ensures c.is_none.ensures,
  none_from telnet_escape c.args.text.now c.find_byte.result c.is_none.result c.find_byte.ensures c.is_none.ensures,
)

pub returns-clause-same : goal.returns-clause-same
returns-clause-same c = plain_same c.args.text.now c.find_byte.result c.is_none.result c.find_byte.ensures c.is_none.ensures
