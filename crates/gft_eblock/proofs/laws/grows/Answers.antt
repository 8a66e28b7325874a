use Rattle.gft_eblock.proofs.EndingLemmas.{arrivals-grow}
use Rattle.gft_eblock.proofs.laws.grows.Goals as goal

pub returns : goal.returns
returns c = arrivals-grow
