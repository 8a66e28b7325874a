use Rattle.std.proofs.Common.{◌≡◌, ◌++◌, ◌^◌, arith, refl, rules}
use Rattle.std.specs.Prelude.{codes, decimal}
use Rattle.gft_reply_kind.proofs.ReplyLemmas.{joined, literal, number, number_in, short_line}
use Rattle.gft_reply_kind.proofs.causes.idle.Goals as goal

pub one_line-requires-clause-text : goal.one_line-requires-clause-text
one_line-requires-clause-text c =
    let text : c.as_bytes.result.now ≡ codes "Idle: lane " ++ (decimal c.args.lane ++ (codes ", turn " ++ (decimal c.args.turns ++ codes "."))) = search rules in
    rw text (short_line _ 340 (
    joined _ _ 100 240 (literal (codes "Idle: lane ") 100 refl (omega arith)) (
    joined _ _ 20 220 (number_in c.args.lane (2 ^ 16) (omega arith) c.ranges.lane.fits) (
    joined _ _ 100 120 (literal (codes ", turn ") 100 refl (omega arith)) (
    joined _ _ 20 100 (number c.args.turns c.ranges.turns.fits) (literal (codes ".") 100 refl (omega arith)))))) (omega arith))
