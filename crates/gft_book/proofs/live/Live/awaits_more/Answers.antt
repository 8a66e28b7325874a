use Rattle.gft_book.proofs.LiveLemmas.{FillsLine-same, IsLive-carries_on}
use Rattle.gft_book.proofs.TotalLemmas.{total_awaits}
use Rattle.gft_book.proofs.live.Live.awaits_more.Goals as goal

pub invariant_of-self : goal.invariant_of-self
invariant_of-self g c = (
  IsLive-carries_on g.N.Run.start _ _ c.facts.ensures.keep c.self.invariant.0 c.awaits_more.ensures.carries_on,
  total_awaits g.N.Run.start c.awaits_more.result _ _ c.args.pass.now c.awaits_more.new.pass c.awaits_more.ensures.awaits c.awaits_more.ensures.ended c.self.invariant.1,
  FillsLine-same g.N.Run.line _ _ _ c.awaits_more.ensures.only.marks c.self.invariant.2,
)
