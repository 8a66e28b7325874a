use Rattle.std.proofs.Common.{◌≡◌, ◌++◌, arith, refl, sym}
use Rattle.std.specs.Prelude.{codes}
use Rattle.std.proofs.lemmas.Grind.{common_steps}
use Rattle.gft_reply_kind.specs.Replies.{hole_text}
use Rattle.gft_reply_kind.proofs.ReplyLemmas.{joined, literal, short_line}
use Rattle.gft_reply_kind.proofs.causes.hole.Goals as goal

pub one_line-requires-clause-text : goal.one_line-requires-clause-text
one_line-requires-clause-text c =
    let text : c.deref-4.result.now ≡ codes "Hole: total " ++ c.in_ok-total.total.items ++ codes ", EODs " ++ c.in_ok-eods.eods.items ++ codes ", first missing " ++ c.in_ok-missing.missing.items ++ codes "." = grind (arith, common_steps) in
    rw text (short_line _ 481 (
    joined _ _ 381 100 (
    joined _ _ 340 41 (
    joined _ _ 240 100 (
    joined _ _ 220 20 (
    joined _ _ 120 100 (
    joined _ _ 100 20 (literal (codes "Hole: total ") 100 refl (omega arith)) c.in_ok-total.ensures.piece) (
    literal (codes ", EODs ") 100 refl (omega arith))) c.in_ok-eods.ensures.piece) (
    literal (codes ", first missing ") 100 refl (omega arith))) c.in_ok-missing.ensures.piece) (
    literal (codes ".") 100 refl (omega arith))) (omega arith))

pub returns-clause-reply : goal.returns-clause-reply
returns-clause-reply c =
    let text : c.deref-4.result.now ≡ codes "Hole: total " ++ c.in_ok-total.total.items ++ codes ", EODs " ++ c.in_ok-eods.eods.items ++ codes ", first missing " ++ c.in_ok-missing.missing.items ++ codes "." = grind (arith, common_steps) in
    let parts : c.deref-4.result.now ≡ hole_text c.args.total c.args.eods c.args.missing = rw (sym c.in_ok-total.ensures.text, sym c.in_ok-eods.ensures.text, sym c.in_ok-missing.ensures.text) text in
    rw parts at c.one_line.ensures.reply
