use Rattle.std.proofs.Common.{◌≡◌, ◌++◌, ◌^◌, arith, refl, rules}
use Rattle.std.specs.Prelude.{codes, decimal}
use Rattle.gft_reply_kind.proofs.ReplyLemmas.{joined, literal, number_in, short_line}
use Rattle.gft_reply_kind.proofs.causes.stream_too_long.Goals as goal

pub one_line-requires-clause-text : goal.one_line-requires-clause-text
one_line-requires-clause-text c =
    let text : c.as_bytes.result.now ≡ codes "Stream too long: lane " ++ (decimal c.args.lane ++ codes ".") = search rules in
    rw text (short_line _ 220 (
    joined _ _ 100 120 (literal (codes "Stream too long: lane ") 100 refl (omega arith)) (
    joined _ _ 20 100 (number_in c.args.lane (2 ^ 16) (omega arith) c.ranges.lane.fits) (literal (codes ".") 100 refl (omega arith)))) (omega arith))
