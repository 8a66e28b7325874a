use Rattle.gft_drive.specs.Words.{bank_at}
use Rattle.gft_journal.specs.Slot.{bank_number}
use Rattle.gft_journal.specs.Bank.{slots_of}
use Rattle.gft_journal.proofs.Writing.{WritingBank}
use Rattle.gft_journal.proofs.bank.write_bank.Given as goal

abbrev pub invariant-loop-i : goal.invariant-loop-i
invariant-loop-i g l = WritingBank (g.D.Drive.state l.fn.drive) (g.D.Drive.state l.drive) (bank_at (bank_number l.fn.bank)) (slots_of l.set l.complete) l.i
