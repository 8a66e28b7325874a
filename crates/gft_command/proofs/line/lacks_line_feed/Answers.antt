use Rattle.gft_command.proofs.TelnetLemmas.{lacks_from, none_from}
use Rattle.gft_command.proofs.line.lacks_line_feed.Goals as goal

pub returns : goal.returns
returns c = (
  lacks_from 10 c.args.text.now c.find_byte.result c.is_none.result c.find_byte.ensures c.is_none.ensures,
  none_from 10 c.args.text.now c.find_byte.result c.is_none.result c.find_byte.ensures c.is_none.ensures,
)
