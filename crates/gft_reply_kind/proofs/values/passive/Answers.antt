use Rattle.std.proofs.Common.{◌≡◌, ◌++◌, arith, refl}
use Rattle.std.specs.Prelude.{codes}
use Rattle.std.proofs.lemmas.Grind.{common_steps}
use Rattle.gft_text.specs.Words.{host_port_text}
use Rattle.gft_reply_kind.proofs.ReplyLemmas.{address, joined, literal, short_line}
use Rattle.gft_reply_kind.proofs.values.passive.Goals as goal

pub one_line-requires-clause-text : goal.one_line-requires-clause-text
one_line-requires-clause-text c =
    let at = c.args.at.now in
    let text : c.deref-2.result.now ≡ codes "Entering Passive Mode (" ++ host_port_text at ++ codes ")" = grind (arith, common_steps) in
    rw text (short_line _ 326 (joined _ _ 226 100 (joined _ _ 100 126 (literal (codes "Entering Passive Mode (") 100 refl (omega arith)) (address at c.in_ok-place.place.items c.in_ok-place.ensures.read_again)) (literal (codes ")") 100 refl (omega arith))) (omega arith))
