use Rattle.std.proofs.Common.{◌≡◌, take}
use Rattle.gft_reply.proofs.reply_lines.ReplyLines.copy.Given as goal

abbrev pub invariant-loop-line : goal.invariant-loop-line
invariant-loop-line l = l.lines ≡ take l.line-index l.line-items
