use Rattle.gft_eblock.proofs.BlockLaw.{block_law}
use Rattle.gft_eblock.proofs.laws.one_block.Goals as goal

pub returns : goal.returns
returns c = block_law
