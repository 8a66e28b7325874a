use Rattle.std.proofs.Common.{◌≡◌, take, length, arith}
use Rattle.std.proofs.lemmas.Grind.{common_steps}
use Rattle.std.proofs.lemmas.List.{nil_from_length, take_more}
use Rattle.std.proofs.Math.Seq.{take-length}
use Rattle.gft_range.specs.ListText.{FitRanges}
use Rattle.gft_range.proofs.ListLemmas.{FitRanges-push}
use Rattle.gft_range.proofs.list.write_ranges.Goals as goal

pub returns-in_default-clause-text : goal.returns-in_default-clause-text
returns-in_default-clause-text c = rw (nil_from_length c.args.ranges.now c.in_default.ensures.cases) c.in_ok-from_slice.ensures.items

pub returns-in_default-clause-fit : goal.returns-in_default-clause-fit
returns-in_default-clause-fit c = rw (nil_from_length c.args.ranges.now c.in_default.ensures.cases) tt

pub loop-range-preserved : goal.loop-range-preserved
loop-range-preserved c = record {
  text = grind (arith, common_steps);
  fit = rw (take_more c.in-Some.others.now c.loop-range.range-index (record { start = 0; end = 0 }) c.loop-range-test.true) (FitRanges-push (take c.loop-range.range-index c.in-Some.others.now) _ c.loop-range.invariant.fit c.write_range-in-loop-range.ensures.fit.0 c.write_range-in-loop-range.ensures.fit.1);
}

pub returns-clause-fit : goal.returns-clause-fit
returns-clause-fit c =
    let all : c.loop-range.range-index ≡ length c.in-Some.others.now = omega arith in
    let others : FitRanges c.in-Some.others.now = rw (all, take-length) at c.loop-range.invariant.fit in
    rw c.in-Some.ensures.cases.0 (c.write_range.ensures.fit, others)
