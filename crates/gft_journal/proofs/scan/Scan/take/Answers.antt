use Rattle.std.proofs.Common.{arith}
use Rattle.gft_journal.proofs.Scanning.{unpadded_eight, unpadded_nine}
use Rattle.gft_journal.proofs.scan.Scan.take.Goals as goal
use Rattle.gft_journal.proofs.scan.Scan.take.Goals.{then-slot-ne0-via-then-slot-ne0, then-slot-ne0-via-else-slot-ne0+then-slot-ne0-2}

pub returns-then-slot-ne0-clause-bad : goal.returns-then-slot-ne0-clause-bad
returns-then-slot-ne0-clause-bad c = λ is. (
  omega arith,
  λ good. elim c.then-slot-ne0.branch [
    | then-slot-ne0-via-then-slot-ne0 w ↦ unpadded_eight c.args.slot.now w.if-slot-ne0.true good.1
    | then-slot-ne0-via-else-slot-ne0+then-slot-ne0-2 w ↦ unpadded_nine c.args.slot.now w.if-slot-ne0-2.true good.1
  ],
)
