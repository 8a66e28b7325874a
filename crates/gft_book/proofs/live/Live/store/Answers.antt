use Rattle.gft_book.specs.Book.{book_of}
use Rattle.gft_book.proofs.LiveLemmas.{FillsLine-makes, FillsLine-same, IsLive-carries_on, IsLive-marks, IsLive-storing, KeepsTotal-marks, learns_err}
use Rattle.gft_book.proofs.TotalLemmas.{total_store}
use Rattle.gft_book.proofs.live.Live.store.Goals as goal

pub mark_into-requires-clause-storing : goal.mark_into-requires-clause-storing
mark_into-requires-clause-storing g c κs within =
    IsLive-storing g.N.Run.start _ (IsLive-carries_on g.N.Run.start _ _ c.facts.ensures.keep c.self.invariant.0 c.store-answer.ensures.calls_on.goes_on)

pub invariant_of-self : goal.invariant_of-self
invariant_of-self g c = (
  IsLive-marks g.D.Drive.state g.N.Run.start _ _ c.mark_into.ensures.only (IsLive-carries_on g.N.Run.start _ _ c.facts.ensures.keep c.self.invariant.0 c.store-answer.ensures.calls_on.goes_on),
  KeepsTotal-marks g.N.Run.start _ _ c.mark_into.ensures.only (total_store g.N.Run.start _ c.store-answer.result (book_of g.D.Drive.state c.self.inside.book) (book_of g.D.Drive.state c.store-answer.new.self) c.args.pass.now c.store-answer.new.pass c.args.offset c.args.bytes.now c.store-answer.ensures.stored c.store-answer.ensures.stopped c.self.invariant.1),
  FillsLine-makes g.N.Run.line _ _ _ _ (FillsLine-same g.N.Run.line _ _ _ c.store-answer.ensures.calls_on.marks c.self.invariant.2) c.mark_into.ensures.makes,
)

pub returns-clause-stopped : goal.returns-clause-stopped
returns-clause-stopped g c =
    learns_err _ c.store-answer.result (book_of g.D.Drive.state c.self.inside.book) (book_of g.D.Drive.state c.store-answer.new.self) c.args.pass.now c.store-answer.new.pass c.args.offset c.args.bytes.now c.store-answer.ensures.stopped
