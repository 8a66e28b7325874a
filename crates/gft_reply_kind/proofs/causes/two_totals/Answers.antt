use Rattle.std.proofs.Common.{◌≡◌, ◌++◌, arith, refl, rules}
use Rattle.std.specs.Prelude.{codes, decimal}
use Rattle.gft_reply_kind.proofs.ReplyLemmas.{joined, literal, number, short_line}
use Rattle.gft_reply_kind.proofs.causes.two_totals.Goals as goal

pub one_line-requires-clause-text : goal.one_line-requires-clause-text
one_line-requires-clause-text c =
    let text : c.as_bytes.result.now ≡ codes "Two totals: " ++ (decimal c.args.kept ++ (codes " and " ++ (decimal c.args.new ++ codes "."))) = search rules in
    rw text (short_line _ 340 (
    joined _ _ 100 240 (literal (codes "Two totals: ") 100 refl (omega arith)) (
    joined _ _ 20 220 (number c.args.kept c.ranges.kept.fits) (
    joined _ _ 100 120 (literal (codes " and ") 100 refl (omega arith)) (
    joined _ _ 20 100 (number c.args.new c.ranges.new.fits) (literal (codes ".") 100 refl (omega arith)))))) (omega arith))
