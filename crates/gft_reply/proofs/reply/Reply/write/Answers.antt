use Rattle.gft_reply.proofs.WrittenLemmas.{replies-written}
use Rattle.gft_reply.proofs.reply.Reply.write.Goals as goal

pub returns-clause-read_again : goal.returns-clause-read_again
returns-clause-read_again c = λ later.
    let text = rw (c.new-text.ensures.items, c.as_slice.ensures) at c.in_ok-write_lines.ensures in
    rw text (replies-written c.args.self.now later c.requires)
