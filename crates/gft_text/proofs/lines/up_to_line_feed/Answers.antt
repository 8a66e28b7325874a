use Rattle.std.proofs.Common.{arith, sym}
use Rattle.gft_text.proofs.LineLemmas.{front-ended, front-unended}
use Rattle.gft_text.proofs.lines.up_to_line_feed.Goals as goal

pub returns-in-Some : goal.returns-in-Some
returns-in-Some c =
    front-ended c.args.piece.now c.args.room c.min.result c.in-Some.at (omega arith) (sym c.in-Some.ensures)

pub returns-in-None : goal.returns-in-None
returns-in-None c = front-unended c.args.piece.now c.args.room c.min.result c.min.ensures (sym c.in-None.ensures)
