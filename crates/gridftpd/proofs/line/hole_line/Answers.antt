use Rattle.gridftpd.specs.Line.{hole_text}
use Rattle.gridftpd.proofs.line.hole_line.Goals as goal

pub returns : goal.returns
unfolding hole_text
returns c = c.format.ensures.ok
