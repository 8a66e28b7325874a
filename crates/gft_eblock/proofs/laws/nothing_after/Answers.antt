use Rattle.gft_eblock.proofs.EndingLemmas.{arrivals-ended}
use Rattle.gft_eblock.proofs.laws.nothing_after.Goals as goal

pub returns : goal.returns
returns c = arrivals-ended
