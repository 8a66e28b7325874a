use Rattle.std.proofs.Common.{◌++◌, List, ap, ◌∙◌, arith}
use Rattle.std.specs.List.{flat_map}
use Rattle.gft_range.specs.declared.range.Range.{Range}
use Rattle.gft_layout.specs.Blocks.{left_in}
use Rattle.gft_layout.proofs.LeftLemmas.{left_in-IsMissing, left_in-empty}
use Rattle.gft_layout.proofs.planned.Plan.new.Goals as goal

pub returns : goal.returns
returns c =
    let done = c.args.done.now.ranges in
    let none : Range = record { start = 0; end = 0 } in
    let e = left_in-IsMissing done none c.missing.result c.missing.ensures.left_out ∙ left_in-empty done none (omega arith) in
    ap (λ (rs : List Range). rs ++ flat_map (left_in done) c.args.blocks) e
