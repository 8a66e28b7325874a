use Rattle.std.proofs.Common.{refl}
use Rattle.gft_reply.specs.ReplyStream.{replies}
use Rattle.gft_reply.proofs.replies.Replies.new.Goals as goal

pub returns-clause-to_come : goal.returns-clause-to_come
unfolding replies
returns-clause-to_come c = λ stream. simp (c.new.ensures.items, c.nothing.ensures.code, c.nothing.ensures.lines) refl
