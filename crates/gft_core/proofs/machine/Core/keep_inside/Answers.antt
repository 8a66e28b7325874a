use Rattle.std.proofs.Common.{refl, ap, ◌∙◌}
use Rattle.gft_core.specs.Machine.{State}
use Rattle.gft_core.proofs.MachineLemmas.{Stands-crash}
use Rattle.gft_core.proofs.machine.Core.keep_inside.Goals as goal

pub returns-clause-stands : goal.returns-clause-stands
returns-clause-stands c =
    let begun = ap (λ (s : State). s.has_begun) c.self.view_is ∙ c.requires.begun in
    rw (← c.self.view_is)
    (λ image events same s. Stands-crash image events c.args.ranges _ _ begun same s
    (rw (c.push.ensures.items, c.in_ok-push.was, c.reserve.ensures.items) refl)
    c.in_ok-left.ensures c.in_ok-booked.ensures.ranges refl begun)
