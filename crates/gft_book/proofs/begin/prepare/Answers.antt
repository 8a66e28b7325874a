use Rattle.gft_keep.specs.Words.{keep_of}
use Rattle.gft_book.specs.Begin.{known_of}
use Rattle.gft_book.proofs.BeginLemmas.{not_recovered}
use Rattle.gft_book.proofs.begin.prepare.Goals as goal

pub returns-in-Err-clause-refused : goal.returns-in-Err-clause-refused
returns-in-Err-clause-refused g c = not_recovered (keep_of g.D.Drive.state c.args.keep.now) _ c.args.how.now _ c.in-Err.ensures.refused
