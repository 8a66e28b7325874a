use Rattle.std.proofs.Common.{refl, rules}
use Rattle.gft_drive.specs.Words.{sent_by}
use Rattle.gft_book.proofs.StoreLemmas.{CarriesOn-noted, CarriesOn-still, Fits-noted_stage, IsBook-noted}
use Rattle.gft_book.proofs.book.Book.awaits_more.Goals as goal

pub invariant_of-self : goal.invariant_of-self
invariant_of-self g c = IsBook-noted (sent_by g.O.Origin.source g.O.Origin.orders g.O.Origin.fit) _ _ _ _ c.self.invariant (record { ended = c.has_ended.ensures.ended (search rules); notes = c.note.ensures }) refl refl

pub returns-then-not-has_ended-clause-carries_on : goal.returns-then-not-has_ended-clause-carries_on
returns-then-not-has_ended-clause-carries_on g c = rw (← c.self.view_is) (CarriesOn-still (sent_by g.O.Origin.source g.O.Origin.orders g.O.Origin.fit) _ c.args.pass.now c.self.invariant (rw (← c.self.view_is) at c.requires.pass))

pub returns-clause-carries_on : goal.returns-clause-carries_on
returns-clause-carries_on g c = rw (← c.self.view_is) (CarriesOn-noted (sent_by g.O.Origin.source g.O.Origin.orders g.O.Origin.fit) _ _ _ _ c.self.invariant (record { ended = c.has_ended.ensures.ended (search rules); notes = c.note.ensures }) refl refl)

pub returns-clause-events : goal.returns-clause-events
returns-clause-events g c = rw (← c.self.view_is) (λ events f. Fits-noted_stage _ _ _ _ c.note.ensures refl refl events f)
