use Rattle.gft_book.specs.Words.{book_of}
use Rattle.gft_book.proofs.Lemmas.{IsLive-carries_on, IsLive-marks, KeepsTotal-marks, total_fail}
use Rattle.gft_receive.proofs.LastLemmas.{outside_of}
use Rattle.gft_receive.proofs.teller.Teller.finish.Goals as goal

pub returns-in-Some-clause-live : goal.returns-in-Some-clause-live
returns-in-Some-clause-live g c =
    let only = c.tell_last.ensures.only in
    record {
      live = λ start live. IsLive-carries_on start (book_of g.D.Drive.state c.tell_last.new.book) (book_of g.D.Drive.state c.fail.new.self) c.facts-2.ensures.keep
          (IsLive-marks g.D.Drive.state start c.args.book.now c.tell_last.new.book only live) c.fail.ensures.calls_on.goes_on;
      total = λ start keeps. total_fail start c.tell_last.new.book.stage c.fail.new.self.stage c.tell_last.new.self.pass c.fail.new.pass c.cause.result (outside_of c.in-Some.error c.cause.result c.cause.ensures) c.fail.ensures.failed
          (KeepsTotal-marks start c.args.book.now c.tell_last.new.book only keeps);
    }
