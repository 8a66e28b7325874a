use Rattle.gft_book.specs.Book.{HasAllPasses}
use Rattle.gft_book.proofs.tests.run.Given as goal

abbrev pub invariant-loop-place : goal.invariant-loop-place
invariant-loop-place g l = HasAllPasses l.book.stage l.passes.items
