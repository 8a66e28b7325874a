use Rattle.gft_drive.specs.Words.{sent_by}
use Rattle.gft_book.specs.Book.{book_of}
use Rattle.gft_book.proofs.LiveLemmas.{FillsLine-same, IsLive-carries_on, learns_eof}
use Rattle.gft_book.proofs.TotalLemmas.{total_eof}
use Rattle.gft_book.proofs.live.Live.eof.Goals as goal

pub invariant_of-self : goal.invariant_of-self
invariant_of-self g c = (
  IsLive-carries_on g.N.Run.start _ _ c.facts.ensures.keep c.self.invariant.0 c.eof-answer.ensures.calls_on.goes_on,
  total_eof g.N.Run.start (sent_by g.O.Origin.source g.O.Origin.orders g.O.Origin.fit) c.eof-answer.result c.self.inside.book.stage c.eof-answer.new.self.stage c.args.pass.now c.eof-answer.new.pass c.args.total c.requires.honest c.eof-answer.ensures.taken c.eof-answer.ensures.stopped c.self.invariant.1,
  FillsLine-same g.N.Run.line _ _ _ c.eof-answer.ensures.calls_on.marks c.self.invariant.2,
)

pub returns-clause-stopped : goal.returns-clause-stopped
returns-clause-stopped g c =
    learns_eof c.eof-answer.result (book_of g.D.Drive.state c.self.inside.book) (book_of g.D.Drive.state c.eof-answer.new.self) c.args.pass.now c.eof-answer.new.pass c.args.total c.eof-answer.ensures.stopped
