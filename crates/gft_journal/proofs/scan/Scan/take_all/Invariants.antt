use Rattle.gft_journal.specs.Scan.{GoesOver, IsInLimit}
use Rattle.gft_journal.proofs.scan.Scan.take_all.Given as goal

abbrev pub invariant-loop-i : goal.invariant-loop-i
invariant-loop-i l = record {
  over : GoesOver l.first l.i l.bytes l.fn.self l.self;
  in_limit : IsInLimit l.fn.self → IsInLimit l.self;
}
