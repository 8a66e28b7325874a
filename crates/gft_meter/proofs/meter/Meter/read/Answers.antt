use Rattle.std.proofs.Common.{◌<◌, refl, sym, ap, ◌∙◌, subst, arith}
use Rattle.atomic_table.specs.Table.{keeps}
use Rattle.gft_meter.proofs.StepLemmas.{shows, stays}
use Rattle.gft_meter.proofs.meter.Meter.read.Goals as goal

pub load-requires : goal.load-requires
load-requires c =
    let v = c.seat.inside.seat.me.0 in
    let below : c.args.stripe < c.self.inside.stripes = subst (λ n. c.args.stripe < n) (sym (ap (λ m. m.stripes) c.self.view_is)) c.requires.stripe in (
      ap (λ s. s.table) c.seat.view_is ∙ c.requires.meter ∙ sym (ap (λ m. m.table) c.self.view_is),
      omega (arith, c.word_of.ensures, below, c.self.invariant.1),
      λ s h len at fits. (
        v,
        keeps,
        tt,
        stays _ s.words s.views _ v _ h at,
        (refl, λ k is_place. shows _ s.words s.views _ v _ k (ap (λ m. m.0.is_live) c.seat.invariant) h at is_place),
      ),
    )

pub returns-clause-bound : goal.returns-clause-bound
returns-clause-bound c = (c.load.ensures.2.1 c.args.stripe c.word_of.ensures).2
