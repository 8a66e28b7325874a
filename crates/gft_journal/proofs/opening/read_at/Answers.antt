use Rattle.std.proofs.Common.{arith}
use Rattle.gft_journal.proofs.opening.read_at.Goals as goal

pub returns-then-count-buf-clause-damaged : goal.returns-then-count-buf-clause-damaged
returns-then-count-buf-clause-damaged g c = λ damage is read told.
    omega (arith, (c.in-Ok.ensures.bytes read told).0, c.requires.size read told, c.if-count-buf.true, c.requires.within, c.read.auto.buf)
