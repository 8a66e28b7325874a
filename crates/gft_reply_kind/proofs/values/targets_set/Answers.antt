use Rattle.std.proofs.Common.{◌≡◌, ◌++◌, arith, refl, rules}
use Rattle.std.specs.Prelude.{codes, decimal}
use Rattle.gft_reply_kind.proofs.ReplyLemmas.{joined, literal, number, short_line}
use Rattle.gft_reply_kind.proofs.values.targets_set.Goals as goal

pub one_line-requires-clause-text : goal.one_line-requires-clause-text
one_line-requires-clause-text c =
    let text : c.as_bytes.result.now ≡ decimal c.args.count ++ codes " targets set." = search rules in
    rw text (short_line _ 120 (joined _ _ 20 100 (number c.args.count c.ranges.count.fits) (literal (codes " targets set.") 100 refl (omega arith))) (omega arith))
