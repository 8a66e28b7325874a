use Rattle.std.proofs.Common.{refl}
use Rattle.gft_core.proofs.MachineLemmas.{Stands-answered, Stands-open}
use Rattle.gft_core.proofs.machine.Core.take.Goals as goal

pub returns-then-unanswered-clause-stands : goal.returns-then-unanswered-clause-stands
returns-then-unanswered-clause-stands c =
    rw (c.if-unanswered.true, ← c.self.view_is)
    (λ lane channel events s. Stands-open lane channel c.args.start c.args.bytes.now events _ _ s
    (rw (c.push.ensures.items, c.in_ok-push.was, c.reserve.ensures.items, c.in_ok-entry.ensures, c.if-unanswered.true) refl)
    (rw (← c.reserve-2.ensures.ranges, ← c.requires.end) c.add.ensures.offsets)
    c.reserve-3.ensures.ranges refl refl)

pub returns-clause-stands : goal.returns-clause-stands
returns-clause-stands c =
    rw (c.if-unanswered.false, ← c.self.view_is)
    (λ lane channel events s. Stands-answered lane channel c.args.start c.args.bytes.now events _ _ s
    (rw (c.push.ensures.items, c.in_ok-push.was, c.reserve.ensures.items, c.in_ok-entry.ensures, c.if-unanswered.false) refl)
    (rw (← c.reserve-2.ensures.ranges, ← c.requires.end) c.add.ensures.offsets)
    (rw (← c.reserve-3.ensures.ranges, ← c.requires.end) c.add-2.ensures.offsets)
    refl refl)
