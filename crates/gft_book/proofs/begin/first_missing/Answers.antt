use Rattle.std.proofs.Common.{refl, sym, subst}
use Rattle.gft_range.specs.Words.{IsMissing}
use Rattle.gft_book.proofs.MissingLemmas.{first_of, more_has, past_has}
use Rattle.gft_book.proofs.begin.first_missing.Goals.{in-Some+in_default-next, in_default}
use Rattle.gft_book.proofs.begin.first_missing.Goals as goal

pub returns-in-Some-next : goal.returns-in-Some-next
returns-in-Some-next c = (
  c.in-Some-next.missing,
  refl,
  first_of c.args.kept.now.ranges c.args.list.now.ranges c.loop-i.i c.in-Some.range c.in-Some-next.missing _ c.nth.ensures.normal (sym c.in-Some.ensures.range)
      (subst (IsMissing c.args.kept.now.ranges c.in-Some.range) c.in-Some-next.ensures.steps c.missing.ensures.left_out) c.loop-i.invariant,
)

pub loop-i-preserved : goal.loop-i-preserved
loop-i-preserved c = elim c.match-nth.branch [
  | in-Some+in_default-next w ↦ more_has c.args.kept.now.ranges c.args.list.now.ranges c.loop-i.i w.in-Some.range (sym w.in-Some.ensures.range)
      (subst (IsMissing c.args.kept.now.ranges w.in-Some.range) w.in_default-next.ensures.steps.0 w.missing.ensures.left_out) c.loop-i.invariant
  | in_default w ↦ past_has c.args.kept.now.ranges c.args.list.now.ranges c.loop-i.i (sym w.in_default.ensures.range) c.loop-i.invariant
]
