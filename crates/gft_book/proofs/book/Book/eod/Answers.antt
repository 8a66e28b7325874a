use Rattle.std.proofs.Common.{refl, rules}
use Rattle.gft_drive.specs.Words.{sent_by}
use Rattle.gft_book.proofs.StoreLemmas.{CallsOn-found, Fits-stopped, IsBook-found}
use Rattle.gft_book.proofs.CountLemmas.{CallsOn-eod, Fits-eod, IsBook-eod}
use Rattle.gft_book.proofs.book.Book.eod.Goals as goal

pub invariant_of-self : goal.invariant_of-self
invariant_of-self g c = IsBook-found (sent_by g.O.Origin.source g.O.Origin.orders g.O.Origin.fit) _ _ _ _ c.self.invariant c.stop.ensures refl refl

pub returns-then-has_failed-clause-calls_on : goal.returns-then-has_failed-clause-calls_on
returns-then-has_failed-clause-calls_on g c = rw (← c.self.view_is) (CallsOn-found g.D.Drive.state (sent_by g.O.Origin.source g.O.Origin.orders g.O.Origin.fit) _ _ _ _ c.self.invariant c.stop.ensures refl refl refl refl)

pub returns-then-has_failed-clause-events : goal.returns-then-has_failed-clause-events
returns-then-has_failed-clause-events g c = rw (← c.self.view_is) (λ events f. Fits-stopped _ _ _ _ c.stop.ensures refl refl _ events f)

pub invariant_of-self-2 : goal.invariant_of-self-2
invariant_of-self-2 g c =
    IsBook-eod (sent_by g.O.Origin.source g.O.Origin.orders g.O.Origin.fit) _ _ c.args.pass.now c.eod.new.pass c.eod.result c.self.invariant (rw (← c.self.view_is) at c.requires.pass) (rw (← c.self.view_is) at c.requires.honest) c.eod.ensures.ok c.eod.ensures.err refl refl

pub returns-clause-calls_on : goal.returns-clause-calls_on
returns-clause-calls_on g c =
    rw (← c.self.view_is) (CallsOn-eod g.D.Drive.state (sent_by g.O.Origin.source g.O.Origin.orders g.O.Origin.fit) _ _ c.args.pass.now c.eod.new.pass c.eod.result c.self.invariant c.eod.ensures.ok c.eod.ensures.err refl refl (search rules) refl)

pub returns-clause-events : goal.returns-clause-events
returns-clause-events g c =
    rw (← c.self.view_is) (λ events f. Fits-eod (sent_by g.O.Origin.source g.O.Origin.orders g.O.Origin.fit) _ _ c.args.pass.now c.eod.new.pass c.eod.result c.self.invariant c.eod.ensures.ok c.eod.ensures.err refl refl events f)
