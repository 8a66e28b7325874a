use Rattle.std.proofs.Common.{◌≡◌, ◌*◌}
use Rattle.gft_drive.specs.Words.{Unchanged, bank_at}
use Rattle.gft_journal.specs.Attach.{WhereTold}
use Rattle.gft_journal.specs.Scan.{IsInLimit, IsScan}
use Rattle.gft_journal.specs.Slot.{bank_number}
use Rattle.gft_journal.proofs.opening.read_bank.Given as goal

abbrev pub invariant-loop-i : goal.invariant-loop-i
invariant-loop-i g l = record {
  looks : Unchanged (g.D.Drive.state l.fn.drive) (g.D.Drive.state l.drive);
  faults : (g.D.Drive.state l.drive).faults ≡ (g.D.Drive.state l.fn.drive).faults;
  in_limit : IsInLimit l.scan;
  scan : WhereTold (g.D.Drive.state l.fn.drive) (λ xs. IsScan xs (bank_at (bank_number l.bank)) (256 * l.i) l.scan);
}
