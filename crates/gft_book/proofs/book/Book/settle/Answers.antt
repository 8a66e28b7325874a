use Rattle.std.proofs.Common.{refl, sym, ◌∙◌, inl, inr}
use Rattle.gft_drive.specs.Words.{sent_by}
use Rattle.gft_keep.specs.Words.{keep_of}
use Rattle.gft_book.proofs.ChoiceLemmas.{off}
use Rattle.gft_book.proofs.EndLemmas.{IsBook-rest, Keeps-closes, Keeps-left, SettlesEvents-left, SettlesEvents-rest, counted_from}
use Rattle.gft_book.proofs.SettleLemmas.{honest_end, is_done, misses_none, never_done, open_now, stands_whole}
use Rattle.gft_book.proofs.book.Book.settle.Goals as goal

pub returns-in-Some-clause-events : goal.returns-in-Some-clause-events
returns-in-Some-clause-events g c =
    let was = sym c.replace-stage.ensures.value ∙ c.in-Storing.is in
    rw (← c.self.view_is) (λ events f. SettlesEvents-left (sent_by g.O.Origin.source g.O.Origin.orders g.O.Origin.fit) _ _ c.in-Storing.transfer events _ c.self.invariant was c.replace-stage.ensures.after refl (λ e. off e)
    (λ done. never_done _ c.in-Storing.transfer c.ranges-2.result.now.ranges c.in-Some.cause events was c.ranges-2.ensures c.in-Some.ensures f done) f)

pub returns-in-Some-clause-keeps : goal.returns-in-Some-clause-keeps
returns-in-Some-clause-keeps g c =
    let was = sym c.replace-stage.ensures.value ∙ c.in-Storing.is in
    rw (← c.self.view_is) (Keeps-left (sent_by g.O.Origin.source g.O.Origin.orders g.O.Origin.fit) _ c.in-Storing.transfer c.self.invariant was)

pub invariant_of-self-in-Ok : goal.invariant_of-self-in-Ok
invariant_of-self-in-Ok g c =
    let was = sym c.replace-stage.ensures.value ∙ c.in-Storing.is in
    let e = c.in-Ok.ensures in
    IsBook-rest (sent_by g.O.Origin.source g.O.Origin.orders g.O.Origin.fit) _ _ c.self.invariant c.replace-stage.ensures.after refl (open_now (sent_by g.O.Origin.source g.O.Origin.orders g.O.Origin.fit) _ c.in-Storing.transfer c.self.invariant was c.in_default-failure.ensures.0) (λ is. let w = sym e.standing ∙ is in cc) e.ranges e.any_moment

pub returns-in-Ok-clause-keeps : goal.returns-in-Ok-clause-keeps
returns-in-Ok-clause-keeps g c =
    let was = sym c.replace-stage.ensures.value ∙ c.in-Storing.is in
    let e = c.in-Ok.ensures in
    rw (← c.self.view_is) (Keeps-closes _ _ c.self.invariant.keep (stands_whole (sent_by g.O.Origin.source g.O.Origin.orders g.O.Origin.fit) _ c.in-Storing.transfer c.self.invariant was c.in_default-failure.ensures.0) e.ranges (counted_from _ _ e.cause.later) e.any_moment)

pub returns-in-Ok-clause-honest : goal.returns-in-Ok-clause-honest
returns-in-Ok-clause-honest g c =
    let was = sym c.replace-stage.ensures.value ∙ c.in-Storing.is in
    let e = c.in-Ok.ensures in
    rw (← c.self.view_is) (honest_end (sent_by g.O.Origin.source g.O.Origin.orders g.O.Origin.fit) _ (keep_of g.D.Drive.state c.close.new.keep) c.in-Storing.transfer c.in-Ok.len c.self.invariant was
    (misses_none _ _ _ c.ranges-2.ensures c.in_default-failure.ensures.1) e.closed.end (λ stor. e.closed.whole (c.is_stor-is_whole.ensures.1 stor))
    (stands_whole (sent_by g.O.Origin.source g.O.Origin.orders g.O.Origin.fit) _ c.in-Storing.transfer c.self.invariant was c.in_default-failure.ensures.0))

pub returns-in-Ok-clause-events : goal.returns-in-Ok-clause-events
returns-in-Ok-clause-events g c =
    let was = sym c.replace-stage.ensures.value ∙ c.in-Storing.is in
    let e = c.in-Ok.ensures in
    let none = c.in_default-failure.ensures.0 in
    rw (← c.self.view_is) (λ events f. SettlesEvents-rest _ _ events _ c.self.invariant.keep c.replace-stage.ensures.after (stands_whole (sent_by g.O.Origin.source g.O.Origin.orders g.O.Origin.fit) _ c.in-Storing.transfer c.self.invariant was none) (inl e.standing) e.ranges e.any_moment
    (λ some _. is_done (sent_by g.O.Origin.source g.O.Origin.orders g.O.Origin.fit) _ c.in-Storing.transfer c.in-Ok.len events c.self.invariant was none (misses_none _ _ _ c.ranges-2.ensures c.in_default-failure.ensures.1) e.closed.end some f) (inl refl) f)

pub invariant_of-self-2 : goal.invariant_of-self-2
invariant_of-self-2 g c =
    let was = sym c.replace-stage.ensures.value ∙ c.in-Storing.is in
    let e = c.in-Err.ensures in
    IsBook-rest (sent_by g.O.Origin.source g.O.Origin.orders g.O.Origin.fit) _ _ c.self.invariant c.replace-stage.ensures.after refl (open_now (sent_by g.O.Origin.source g.O.Origin.orders g.O.Origin.fit) _ c.in-Storing.transfer c.self.invariant was c.in_default-failure.ensures.0) (λ is. let w = sym e.standing ∙ is in cc) e.ranges e.any_moment

pub returns-clause-keeps : goal.returns-clause-keeps
returns-clause-keeps g c =
    let was = sym c.replace-stage.ensures.value ∙ c.in-Storing.is in
    let e = c.in-Err.ensures in
    rw (← c.self.view_is) (Keeps-closes _ _ c.self.invariant.keep (stands_whole (sent_by g.O.Origin.source g.O.Origin.orders g.O.Origin.fit) _ c.in-Storing.transfer c.self.invariant was c.in_default-failure.ensures.0) e.ranges (counted_from _ _ e.cause.later) e.any_moment)

pub returns-clause-events : goal.returns-clause-events
returns-clause-events g c =
    let was = sym c.replace-stage.ensures.value ∙ c.in-Storing.is in
    let e = c.in-Err.ensures in
    let none = c.in_default-failure.ensures.0 in
    rw (← c.self.view_is) (λ events f. SettlesEvents-rest _ _ events _ c.self.invariant.keep c.replace-stage.ensures.after (stands_whole (sent_by g.O.Origin.source g.O.Origin.orders g.O.Origin.fit) _ c.in-Storing.transfer c.self.invariant was none) (inr e.standing) e.ranges e.any_moment
    (λ some no. absurd (off no)) (inr e.cause.failed) f)
