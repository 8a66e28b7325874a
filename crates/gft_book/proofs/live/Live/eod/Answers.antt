use Rattle.gft_book.specs.Book.{book_of}
use Rattle.gft_book.proofs.LiveLemmas.{FillsLine-same, IsLive-carries_on, learns_eod}
use Rattle.gft_book.proofs.TotalLemmas.{total_eod}
use Rattle.gft_book.proofs.live.Live.eod.Goals as goal

pub invariant_of-self : goal.invariant_of-self
invariant_of-self g c = (
  IsLive-carries_on g.N.Run.start _ _ c.facts.ensures.keep c.self.invariant.0 c.eod-answer.ensures.calls_on.goes_on,
  total_eod g.N.Run.start c.eod-answer.result c.self.inside.book.stage c.eod-answer.new.self.stage c.args.pass.now c.eod-answer.new.pass c.eod-answer.ensures.taken c.eod-answer.ensures.stopped c.self.invariant.1,
  FillsLine-same g.N.Run.line _ _ _ c.eod-answer.ensures.calls_on.marks c.self.invariant.2,
)

pub returns-clause-stopped : goal.returns-clause-stopped
returns-clause-stopped g c =
    learns_eod c.eod-answer.result (book_of g.D.Drive.state c.self.inside.book) (book_of g.D.Drive.state c.eod-answer.new.self) c.args.pass.now c.eod-answer.new.pass c.eod-answer.ensures.stopped
