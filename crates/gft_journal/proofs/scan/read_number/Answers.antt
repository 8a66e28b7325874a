use Rattle.std.proofs.Common.{arith}
use Rattle.gft_journal.proofs.Scanning.{six}
use Rattle.gft_journal.proofs.scan.read_number.Goals as goal

pub returns-clause-number : goal.returns-clause-number
returns-clause-number c = omega (arith, six c.args.bytes.now c.args.at)
