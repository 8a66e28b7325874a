use Rattle.std.proofs.Common.{◌≡◌, ◌++◌, arith, refl, rules}
use Rattle.std.specs.Prelude.{codes, decimal}
use Rattle.gft_reply_kind.proofs.ReplyLemmas.{joined, literal, number}
use Rattle.gft_reply_kind.proofs.causes.ends.Goals as goal

pub returns-clause-piece : goal.returns-clause-piece
returns-clause-piece c =
    let text : c.into_bytes.result.items ≡ decimal c.args.start ++ (codes "-" ++ decimal c.args.end) = search rules in
    rw text (joined _ _ 20 21 (number c.args.start c.ranges.start.fits) (joined _ _ 1 20 (literal (codes "-") 1 refl (omega arith)) (number c.args.end c.ranges.end.fits)))
