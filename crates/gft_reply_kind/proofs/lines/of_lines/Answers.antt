use Rattle.gft_reply_kind.proofs.ReplyLemmas.{fits}
use Rattle.gft_reply_kind.proofs.lines.of_lines.Goals as goal

pub returns-clause-fits : goal.returns-clause-fits
returns-clause-fits c = fits _ c.requires.code.0 c.requires.code.1 c.requires.count.0 c.requires.count.1 c.requires.lines
