use Rattle.gft_book.specs.Book.{book_of}
use Rattle.gft_book.proofs.PassesLemmas.{HasAllPasses-ok}
use Rattle.gft_book.proofs.tests.begin.Goals as goal

pub returns : goal.returns
returns g c =
    HasAllPasses-ok c.begin_store.result (λ v. v.items) (book_of g.D.Drive.state c.args.book.now) (book_of g.D.Drive.state c.begin_store.new.self) _ 2 c.begin_store.ensures.begun
