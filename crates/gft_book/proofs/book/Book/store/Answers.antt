use Rattle.std.proofs.Common.{refl, ap, rules}
use Rattle.gft_drive.specs.Words.{sent_by}
use Rattle.gft_book.proofs.FitLemmas.{same_unless}
use Rattle.gft_book.proofs.StoreLemmas.{CallsOn-found, CallsOn-went, CarriesOn-refused, CarriesOn-stored, Fits-refuse, Fits-stopped_store, Fits-store, IsBook-found, IsBook-refused, IsBook-stored, counted_on, ran_failed, ran_stored}
use Rattle.gft_book.proofs.book.Book.store.Goals as goal

pub invariant_of-self : goal.invariant_of-self
invariant_of-self g c = IsBook-found (sent_by g.O.Origin.source g.O.Origin.orders g.O.Origin.fit) _ _ _ _ c.self.invariant c.stop.ensures refl refl

pub returns-then-has_failed-clause-calls_on : goal.returns-then-has_failed-clause-calls_on
returns-then-has_failed-clause-calls_on g c = rw (← c.self.view_is) (CallsOn-found g.D.Drive.state (sent_by g.O.Origin.source g.O.Origin.orders g.O.Origin.fit) _ _ _ _ c.self.invariant c.stop.ensures refl refl refl refl)

pub returns-then-has_failed-clause-events : goal.returns-then-has_failed-clause-events
returns-then-has_failed-clause-events g c = rw (← c.self.view_is) (λ events f. Fits-stopped_store _ _ _ _ _ _ c.stop.ensures refl refl events f)

pub invariant_of-self-in-Ok : goal.invariant_of-self-in-Ok
invariant_of-self-in-Ok g c =
    let e = c.in-Ok.ensures in
    IsBook-stored (sent_by g.O.Origin.source g.O.Origin.orders g.O.Origin.fit) _ _ _ _ _ _ _ c.self.invariant (rw (← c.self.view_is) at c.requires.pass) c.requires.block (rw (← c.self.view_is) at c.requires.honest) e.any_moment e.stored c.book.ensures refl

pub invariant_of-self-in-Err : goal.invariant_of-self-in-Err
invariant_of-self-in-Err g c =
    let e = c.in-Err.ensures in
    IsBook-refused _ (sent_by g.O.Origin.source g.O.Origin.orders g.O.Origin.fit) _ _ _ _ _ _ _ c.self.invariant (rw (← c.self.view_is) at c.requires.honest) e.any_moment (λ same. ap (λ k. k.standing) same) e.refused (rw c.of_keep.ensures at c.break_off.ensures) refl

pub returns-in-Ok-clause-calls_on : goal.returns-in-Ok-clause-calls_on
returns-in-Ok-clause-calls_on g c =
    let e = c.in-Ok.ensures in
    rw (← c.self.view_is) (CallsOn-went g.D.Drive.state _ _ (CarriesOn-stored (sent_by g.O.Origin.source g.O.Origin.orders g.O.Origin.fit) _ _ _ _ _ _ _ c.self.invariant e.any_moment e.stored c.book.ensures refl) (ran_stored _ _ _ _ _ c.book.ensures) (search rules) refl)

pub returns-in-Ok-clause-events : goal.returns-in-Ok-clause-events
returns-in-Ok-clause-events g c =
    let e = c.in-Ok.ensures in
    rw (← c.self.view_is) (λ events f. Fits-store (sent_by g.O.Origin.source g.O.Origin.orders g.O.Origin.fit) _ _ _ _ _ _ _ c.self.invariant e.any_moment e.stored c.book.ensures refl events f)

pub returns-in-Err-clause-calls_on : goal.returns-in-Err-clause-calls_on
returns-in-Err-clause-calls_on g c =
    let e = c.in-Err.ensures in
    rw (← c.self.view_is) (CallsOn-went g.D.Drive.state _ _ (CarriesOn-refused _ (sent_by g.O.Origin.source g.O.Origin.orders g.O.Origin.fit) _ _ _ _ _ _ _ c.self.invariant e.any_moment (counted_on _ _ _ _ _ (λ same. ap (λ k. (g.D.Drive.state k.drive).faults) same) e.refused) e.refused (rw c.of_keep.ensures at c.break_off.ensures) refl) (ran_failed _ _ _ _ _ c.break_off.ensures) (search rules) refl)

pub returns-in-Err-clause-events : goal.returns-in-Err-clause-events
returns-in-Err-clause-events g c =
    let e = c.in-Err.ensures in
    rw (← c.self.view_is) (λ events f. Fits-refuse _ (sent_by g.O.Origin.source g.O.Origin.orders g.O.Origin.fit) _ _ _ _ _ _ _ c.self.invariant (same_unless g.D.Drive.state _ _ _ e.refused.kept) e.any_moment e.refused (rw c.of_keep.ensures at c.break_off.ensures) refl events f)
