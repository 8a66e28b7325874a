use Rattle.std.proofs.Common.{◌≡◌, ◌++◌, ◌^◌, arith, refl, rules}
use Rattle.std.specs.Prelude.{codes, decimal}
use Rattle.gft_reply_kind.proofs.ReplyLemmas.{joined, literal, number_in, short_line}
use Rattle.gft_reply_kind.proofs.causes.too_many_channels.Goals as goal

pub one_line-requires-clause-text : goal.one_line-requires-clause-text
one_line-requires-clause-text c =
    let text : c.as_bytes.result.now ≡ codes "Too many channels: lane " ++ (decimal c.args.lane ++ (codes ", opened " ++ (decimal c.args.opened ++ (codes ", live " ++ (decimal c.args.live ++ codes "."))))) = search rules in
    rw text (short_line _ 460 (
    joined _ _ 100 360 (literal (codes "Too many channels: lane ") 100 refl (omega arith)) (
    joined _ _ 20 340 (number_in c.args.lane (2 ^ 16) (omega arith) c.ranges.lane.fits) (
    joined _ _ 100 240 (literal (codes ", opened ") 100 refl (omega arith)) (
    joined _ _ 20 220 (number_in c.args.opened (2 ^ 32) (omega arith) c.ranges.opened.fits) (
    joined _ _ 100 120 (literal (codes ", live ") 100 refl (omega arith)) (
    joined _ _ 20 100 (number_in c.args.live (2 ^ 16) (omega arith) c.ranges.live.fits) (literal (codes ".") 100 refl (omega arith)))))))) (omega arith))
