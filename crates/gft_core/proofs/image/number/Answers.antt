use Rattle.std.proofs.Common.{arith}
use Rattle.gft_core.proofs.HeldLemmas.{six}
use Rattle.gft_core.proofs.image.number.Goals as goal

pub returns : goal.returns
returns c = omega (arith, six c.args.part.now c.args.at)
