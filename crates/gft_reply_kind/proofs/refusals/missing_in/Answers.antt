use Rattle.std.proofs.Common.{◌≡◌, ◌++◌, arith, refl, rules}
use Rattle.std.specs.Prelude.{codes, decimal}
use Rattle.gft_reply_kind.proofs.ReplyLemmas.{joined, literal, number, short_line}
use Rattle.gft_reply_kind.proofs.refusals.missing_in.Goals as goal

pub one_line-requires-clause-text : goal.one_line-requires-clause-text
one_line-requires-clause-text c =
    let text : c.as_bytes.result.now ≡ codes "REST names " ++ (decimal c.args.start ++ (codes "-" ++ (decimal c.args.end ++ codes ", which is not stored."))) = search rules in
    rw text (short_line _ 340 (
    joined _ _ 100 240 (literal (codes "REST names ") 100 refl (omega arith)) (
    joined _ _ 20 220 (number c.args.start c.ranges.start.fits) (
    joined _ _ 100 120 (literal (codes "-") 100 refl (omega arith)) (
    joined _ _ 20 100 (number c.args.end c.ranges.end.fits) (literal (codes ", which is not stored.") 100 refl (omega arith)))))) (omega arith))
