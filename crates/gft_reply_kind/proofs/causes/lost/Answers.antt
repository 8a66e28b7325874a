use Rattle.std.proofs.Common.{◌≡◌, ◌++◌, ◌^◌, arith, refl, rules}
use Rattle.std.specs.Prelude.{codes, decimal}
use Rattle.gft_reply_kind.proofs.ReplyLemmas.{joined, literal, number, number_in, short_line}
use Rattle.gft_reply_kind.proofs.causes.lost.Goals as goal

pub one_line-requires-clause-text : goal.one_line-requires-clause-text
one_line-requires-clause-text c =
    let text : c.as_bytes.result.now ≡ codes "Channel lost: lane " ++ (decimal c.args.lane ++ (codes ", channel " ++ (decimal c.args.channel ++ (codes ", " ++ (decimal c.args.taken ++ codes " bytes taken."))))) = search rules in
    rw text (short_line _ 460 (
    joined _ _ 100 360 (literal (codes "Channel lost: lane ") 100 refl (omega arith)) (
    joined _ _ 20 340 (number_in c.args.lane (2 ^ 16) (omega arith) c.ranges.lane.fits) (
    joined _ _ 100 240 (literal (codes ", channel ") 100 refl (omega arith)) (
    joined _ _ 20 220 (number_in c.args.channel (2 ^ 32) (omega arith) c.ranges.channel.fits) (
    joined _ _ 100 120 (literal (codes ", ") 100 refl (omega arith)) (
    joined _ _ 20 100 (number c.args.taken c.ranges.taken.fits) (literal (codes " bytes taken.") 100 refl (omega arith)))))))) (omega arith))
