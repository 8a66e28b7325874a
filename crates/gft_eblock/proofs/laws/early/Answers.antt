use Rattle.gft_eblock.proofs.ToComeLemmas.{to_come-early}
use Rattle.gft_eblock.proofs.laws.early.Goals as goal

pub returns : goal.returns
returns c = to_come-early
