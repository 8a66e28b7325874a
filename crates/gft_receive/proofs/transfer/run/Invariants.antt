use Rattle.std.proofs.Common.{Some}
use Rattle.gft_book.specs.Words.{book_of, named_by, start_now}
use Rattle.gft_receive.specs.Known.{works_total}
use Rattle.gft_receive.proofs.transfer.run.Given as goal

-- this transfer, from this moment on, with the total that its lanes announce, and a line into which nothing was
-- pushed
abbrev pub ghosts-run_movers : goal.ghosts-run_movers
ghosts-run_movers g a = record {
  start = record (start_now (book_of g.D.Drive.state a.book)) { total = works_total g.L.Lane.state a.limits.now.shift a.book.stage a.works.now };
  line = record { line = Some a.pusher.line; marked = named_by a.book.marks };
}
