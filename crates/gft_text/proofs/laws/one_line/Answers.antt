use Rattle.gft_text.proofs.LineLemmas.{told-line}
use Rattle.gft_text.proofs.laws.one_line.Goals as goal

pub returns : goal.returns
returns c = told-line
