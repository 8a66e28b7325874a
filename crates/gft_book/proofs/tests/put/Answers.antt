use Rattle.gft_book.specs.Book.{book_of}
use Rattle.gft_book.proofs.PassesLemmas.{SamePass-store}
use Rattle.gft_book.proofs.tests.put.Goals as goal

pub returns-clause-pass : goal.returns-clause-pass
returns-clause-pass g c =
    SamePass-store c.store.result _ (book_of g.D.Drive.state c.args.book.now) (book_of g.D.Drive.state c.store.new.self) c.args.pass.now c.store.new.pass c.args.offset c.args.bytes.now c.store.ensures.stored c.store.ensures.stopped
