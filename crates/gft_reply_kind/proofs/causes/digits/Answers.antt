use Rattle.std.proofs.Common.{◌≡◌, rules}
use Rattle.std.specs.Prelude.{decimal}
use Rattle.gft_reply_kind.proofs.ReplyLemmas.{number}
use Rattle.gft_reply_kind.proofs.causes.digits.Goals as goal

pub returns-clause-piece : goal.returns-clause-piece
returns-clause-piece c =
    let text : c.into_bytes.result.items ≡ decimal c.args.number = search rules in
    rw text (number c.args.number c.ranges.number.fits)
