use Rattle.gft_book.proofs.LiveLemmas.{FillsLine-quiet}
use Rattle.gft_book.proofs.live.Live.close.Goals as goal

pub invariant_of-self : goal.invariant_of-self
invariant_of-self g c = (c.self.invariant.0, c.self.invariant.1, FillsLine-quiet g.N.Run.line _ _ _ c.close.ensures.same c.self.invariant.2)
