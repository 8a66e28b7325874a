use Rattle.std.proofs.Common.{ℕ, List, [], ap, ◌∙◌, sym, append-nil, arith}
use Rattle.std.proofs.Math.Seq.{take-length}
use Rattle.gft_reply.specs.Replies.{replies_to_come}
use Rattle.gft_reply.proofs.FeedLemmas.{ended-carries, ended-within, is_nothing, open-carries}
use Rattle.gft_reply.proofs.replies.Replies.feed.Goals as goal

pub overflow_sub-result : goal.overflow_sub-result
overflow_sub-result c =
    let inside = c.self.inside in
    let stop = rw c.in-Ok-Ended.field-0-is at c.in-Ok-Ended.ensures.takes in
    let within = ended-within inside.bytes.items c.args.piece.now stop.front stop.rest c.self.invariant.0 stop.bytes_are in
    omega (arith, stop.left_is)

pub returns-in-Ok-Open-clause-carried : goal.returns-in-Ok-Open-clause-carried
returns-in-Ok-Open-clause-carried c =
    let inside = c.self.inside in
    let stop = rw c.in-Ok-Open.field-0-is at c.in-Ok-Open.ensures.takes in
    rw (← c.self.view_is) (open-carries inside.begun c.take_piece.new.begun inside.bytes.items c.args.piece.now c.take_piece.new.held.items inside.failed c.if-self.false stop)

pub returns-in-Ok-Open-clause-refused : goal.returns-in-Ok-Open-clause-refused
returns-in-Ok-Open-clause-refused c = λ came.
    let carried = returns-in-Ok-Open-clause-carried c in
    let piece = c.args.piece.now in
    let none = ap (λ (x : List ℕ). replies_to_come c.args.self.now x) (sym (append-nil _ ∙ take-length piece)) ∙ carried.all [] ∙ carried.settled in
    cc (none, came)

pub returns-in-Ok-Ended-clause-carried : goal.returns-in-Ok-Ended-clause-carried
returns-in-Ok-Ended-clause-carried c =
    let inside = c.self.inside in
    let stop = rw c.in-Ok-Ended.field-0-is at c.in-Ok-Ended.ensures.takes in
    rw (← c.self.view_is) (ended-carries inside.begun c.take_piece.new.begun c.replace-reply.result c.replace-reply.new.dest inside.bytes.items c.args.piece.now c.clear.new.self.items c.in-Ok-Ended.left inside.failed c.if-self.false c.self.invariant.0 stop c.replace-reply.ensures.value (c.replace-reply.ensures.after ∙ is_nothing c.nothing-next.result c.nothing-next.ensures.code c.nothing-next.ensures.lines) c.clear.ensures.items)
