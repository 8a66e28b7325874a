use Rattle.std.proofs.Common.{◌++◌, List, sym, ap, ◌∙◌}
use Rattle.std.specs.List.{flat_map}
use Rattle.gft_range.specs.declared.range.Range.{Range}
use Rattle.gft_layout.specs.Blocks.{left_in}
use Rattle.gft_layout.proofs.LeftLemmas.{left_in-IsMissing}
use Rattle.gft_layout.proofs.planned.PlanIterator.next.Goals as goal

pub loop-block-preserved : goal.loop-block-preserved
loop-block-preserved c =
    let done = c.loop-block.self-inside.done.now.ranges in
    let h1 = c.loop-block.invariant in
    let h2 = c.in_default.ensures.steps in
    let h3 = c.in_ok-block.ensures.steps in
    let e = left_in-IsMissing done c.in_ok-block.block c.missing-self-inside.result c.missing-self-inside.ensures.left_out in
    let left = flat_map (left_in done) in
    let now = c.in_ok-block.block in
    let behind = c.next-in-loop-block.new.self in
    ap (λ (rs : List Range). rs ++ left behind) e
    ∙ sym (ap left h3)
    ∙ sym (ap (λ (rs : List Range). rs ++ left c.loop-block.self-inside.blocks) h2.0)
    ∙ h1
