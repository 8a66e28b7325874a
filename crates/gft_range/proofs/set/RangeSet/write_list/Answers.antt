use Rattle.std.proofs.Common.{arith}
use Rattle.gft_range.proofs.ListLemmas.{IsList-text}
use Rattle.gft_range.proofs.set.RangeSet.write_list.Goals as goal

pub returns-clause-read : goal.returns-clause-read
returns-clause-read c = grind (arith, IsList-text)
