use Rattle.std.specs.Prelude.{Some}
use Rattle.gft_book.specs.Book.{book_of, named_by}
use Rattle.gft_book.specs.Live.{start_now}
use Rattle.gft_book.proofs.tests.lend_first.Given as goal

-- this transfer, from now on
abbrev pub ghosts-lend : goal.ghosts-lend
ghosts-lend g a = record {
  start = start_now (book_of g.D.Drive.state a.book);
  line = record { line = Some a.pusher.line; marked = named_by a.book.marks };
}
