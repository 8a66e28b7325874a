use Rattle.gft_book.specs.Book.{book_of}
use Rattle.gft_book.proofs.LiveLemmas.{FillsLine-same, IsLive-carries_on, learns_fail}
use Rattle.gft_book.proofs.TotalLemmas.{total_fail}
use Rattle.gft_book.proofs.live.Live.fail.Goals as goal

pub invariant_of-self : goal.invariant_of-self
invariant_of-self g c = (
  IsLive-carries_on g.N.Run.start _ _ c.facts.ensures.keep c.self.invariant.0 c.fail.ensures.calls_on.goes_on,
  total_fail g.N.Run.start c.self.inside.book.stage c.fail.new.self.stage c.args.pass.now c.fail.new.pass c.args.cause c.requires.outside c.fail.ensures.failed c.self.invariant.1,
  FillsLine-same g.N.Run.line _ _ _ c.fail.ensures.calls_on.marks c.self.invariant.2,
)

pub returns-clause-learned : goal.returns-clause-learned
returns-clause-learned g c = learns_fail (book_of g.D.Drive.state c.self.inside.book) (book_of g.D.Drive.state c.fail.new.self) c.args.pass.now c.fail.new.pass c.args.cause c.fail.ensures.failed
