use Rattle.std.proofs.Common.{◌≡◌, ◌+◌, ◌≤◌, List, [], ◌∷◌, length, arith, sym, ap, subst}
use Rattle.gft_range.specs.declared.Range.{Range}
use Rattle.gft_range.specs.Words.{IsMissing}
use Rattle.gft_keep.proofs.Counts.{one_missing}
use Rattle.gft_keep.proofs.writing.has_room.Goals as goal

pub loop-gap-init : goal.loop-gap-init
loop-gap-init c = record {
  can = tt;
  finite = tt;
  counted = λ missing is.
      let first : IsMissing c.args.set.now.ranges c.args.block c.into_iter-gap-iterator.result = subst (λ (l : List Range). IsMissing c.args.set.now.ranges c.args.block l) (sym c.into_iter-gap-iterator.ensures.into_iter_gives) c.missing-gap-items.ensures.left_out in
      ap (λ (l : List Range). length l + c.args.slots) (one_missing c.args.set.now.ranges c.args.block missing c.into_iter-gap-iterator.result is first);
}

pub loop-gap-preserved : goal.loop-gap-preserved
loop-gap-preserved c = record {
  can = tt;
  finite = tt;
  counted = λ missing is.
      let size : length c.loop-gap._gap-iterator ≡ length (c.in-Some._gap ∷ c.next.new.self) = ap length c.in-Some.ensures.steps in
      omega (arith, c.loop-gap.invariant.counted missing is, size, c.if-left-eq0.false);
}

pub returns : goal.returns
returns c = λ yes missing is.
    let none : length c.loop-gap._gap-iterator ≡ length {A = Range} [] = ap length (c.in-None.ensures.steps).0 in
    omega (arith, c.loop-gap.invariant.counted missing is, none)
