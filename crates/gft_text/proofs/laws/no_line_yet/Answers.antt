use Rattle.gft_text.proofs.LineLemmas.{told-none}
use Rattle.gft_text.proofs.laws.no_line_yet.Goals as goal

pub returns : goal.returns
returns c = told-none
