use Rattle.std.proofs.Common.{[], ◌∷◌, sym, ap, ◌∙◌}
use Rattle.gft_core.specs.Machine.{State}
use Rattle.gft_core.proofs.MachineLemmas.{Stands-first, as_block, on_ok}
use Rattle.gft_core.proofs.machine.Core.crash.Goals as goal

pub returns-then-self-clause-stands : goal.returns-then-self-clause-stands
returns-then-self-clause-stands c =
    on_ok c.keep_inside.result _ _ (λ f events s. f c.args.image.now events c.in_ok-ranges.ensures s) c.keep_inside.ensures.stands

pub returns-clause-stands : goal.returns-clause-stands
returns-clause-stands c =
    let image = c.args.image.now in
    let none = ap (λ (s : State). s.has_begun) (sym c.self.view_is) ∙ c.if-self.false in
    let block = c.in_ok-take.ensures.stands 0 0 [] c.new-first.ensures.stands in
    rw c.first-2.view_is
    (λ events s. Stands-first image _ (c.in_ok-keep_inside.ensures.stands image (as_block image ∷ []) c.in_ok-ranges.ensures (rw (← c.image.view_is) block)) events c.args.self.now none s)
