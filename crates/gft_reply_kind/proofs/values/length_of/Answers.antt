use Rattle.std.proofs.Common.{◌≡◌, arith, rules}
use Rattle.std.specs.Prelude.{decimal}
use Rattle.gft_reply_kind.proofs.ReplyLemmas.{number, short_line}
use Rattle.gft_reply_kind.proofs.values.length_of.Goals as goal

pub one_line-requires-clause-text : goal.one_line-requires-clause-text
one_line-requires-clause-text c =
    let text : c.as_bytes.result.now ≡ decimal c.args.len = search rules in
    rw text (short_line _ 20 (number c.args.len c.ranges.len.fits) (omega arith))
