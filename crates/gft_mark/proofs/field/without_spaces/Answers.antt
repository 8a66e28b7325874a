use Rattle.std.proofs.Common.{arith}
use Rattle.gft_mark.proofs.FieldLemmas.{spaces-more}
use Rattle.gft_mark.proofs.field.without_spaces.Goals as goal

pub loop-left-preserved : goal.loop-left-preserved
loop-left-preserved c =
    let kept = c.loop-left.invariant in
    spaces-more c.args.text.now kept.0 c.loop-left.left.now (omega arith) (omega arith) kept.1 kept.2
