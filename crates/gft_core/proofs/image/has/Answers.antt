use Rattle.std.proofs.Common.{sym, ◌∙◌, arith}
use Rattle.std.proofs.lemmas.Bool.{le-ltb}
use Rattle.gft_core.proofs.MachineLemmas.{has_none, has_one}
use Rattle.gft_core.proofs.image.has.Goals as goal

pub returns-then-offset-end : goal.returns-then-offset-end
returns-then-offset-end c = has_one c.covers.result c.args.set.now.ranges c.args.offset c.covers.ensures.each

pub returns-else-offset-end : goal.returns-else-offset-end
returns-else-offset-end c =
    le-ltb c.args.offset c.end.result (omega (arith, c.if-offset-end.false))
    ∙ sym (has_none c.args.set.now.ranges c.args.offset (λ h. let lt = c.end.ensures.below c.args.offset h in omega (arith, lt, c.if-offset-end.false)))
