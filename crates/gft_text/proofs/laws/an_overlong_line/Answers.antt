use Rattle.gft_text.proofs.LineLemmas.{told-overlong}
use Rattle.gft_text.proofs.laws.an_overlong_line.Goals as goal

pub returns : goal.returns
returns c = told-overlong
