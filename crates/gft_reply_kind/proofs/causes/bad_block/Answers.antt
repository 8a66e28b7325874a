use Rattle.std.proofs.Common.{◌≡◌, ◌++◌, ◌^◌, arith, refl, rules}
use Rattle.std.specs.Prelude.{codes, decimal}
use Rattle.gft_reply_kind.proofs.ReplyLemmas.{joined, literal, number, number_in, short_line}
use Rattle.gft_reply_kind.proofs.causes.bad_block.Goals as goal

pub one_line-requires-clause-text : goal.one_line-requires-clause-text
one_line-requires-clause-text c =
    let text : c.as_bytes.result.now ≡ codes "Bad block at " ++ (decimal c.args.place ++ (codes ": flags " ++ (decimal c.args.flags ++ (codes ", count " ++ (decimal c.args.count ++ (codes ", offset " ++ (decimal c.args.offset ++ codes "."))))))) = search rules in
    rw text (short_line _ 580 (
    joined _ _ 100 480 (literal (codes "Bad block at ") 100 refl (omega arith)) (
    joined _ _ 20 460 (number c.args.place c.ranges.place.fits) (
    joined _ _ 100 360 (literal (codes ": flags ") 100 refl (omega arith)) (
    joined _ _ 20 340 (number_in c.args.flags (2 ^ 8) (omega arith) c.ranges.flags.fits) (
    joined _ _ 100 240 (literal (codes ", count ") 100 refl (omega arith)) (
    joined _ _ 20 220 (number c.args.count c.ranges.count.fits) (
    joined _ _ 100 120 (literal (codes ", offset ") 100 refl (omega arith)) (
    joined _ _ 20 100 (number c.args.offset c.ranges.offset.fits) (literal (codes ".") 100 refl (omega arith)))))))))) (omega arith))
