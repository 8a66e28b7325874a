use Rattle.std.proofs.Common.{◌≡◌, ◌++◌, arith, refl, rules}
use Rattle.std.specs.Prelude.{codes, decimal}
use Rattle.gft_reply_kind.proofs.ReplyLemmas.{joined, literal, number, short_line}
use Rattle.gft_reply_kind.proofs.causes.too_many_eods.Goals as goal

pub one_line-requires-clause-text : goal.one_line-requires-clause-text
one_line-requires-clause-text c =
    let text : c.as_bytes.result.now ≡ codes "Too many EODs: total " ++ (decimal c.args.total ++ codes ".") = search rules in
    rw text (short_line _ 220 (
    joined _ _ 100 120 (literal (codes "Too many EODs: total ") 100 refl (omega arith)) (
    joined _ _ 20 100 (number c.args.total c.ranges.total.fits) (literal (codes ".") 100 refl (omega arith)))) (omega arith))
