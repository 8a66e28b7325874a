use Rattle.std.proofs.Common.{List, subst}
use Rattle.gft_drive.specs.Words.{sent_by}
use Rattle.gft_keep.specs.Words.{keep_of}
use Rattle.gft_pass.specs.Words.{Lane}
use Rattle.gft_book.specs.Words.{HasAllPasses, book_of, start_now}
use Rattle.gft_receive.specs.Transfer.{AreFresh}
use Rattle.gft_receive.proofs.ToldLemmas.{told_none}
use Rattle.gft_receive.proofs.transfer.receive.Goals as goal

pub run-requires-clause-passes : goal.run-requires-clause-passes
run-requires-clause-passes g c κs within = (
  subst (λ (l : List Lane). HasAllPasses c.args.book.stage l) c.in-Some.ensures.items c.requires.passes.0,
  subst (λ (l : List Lane). AreFresh l) c.in-Some.ensures.items c.requires.passes.1,
)

pub returns-in_default-with_capacity-clause-told : goal.returns-in_default-with_capacity-clause-told
returns-in_default-with_capacity-clause-told g c =
    told_none g.W.Sink.written g.W.Sink.is_open g.W.Sink.faults c.args.out.now (sent_by g.O.Origin.source g.O.Origin.orders g.O.Origin.fit (start_now (book_of g.D.Drive.state c.args.book)).label) (keep_of g.D.Drive.state c.give_up.result.book.keep)
    c.args.book.marks c.give_up.result.book.marks c.give_up.result.outcome.end c.give_up.result.outcome.told c.give_up.result.put_failed c.requires.sink c.give_up.ensures.told c.give_up.ensures.memory

pub returns-in_default-line-clause-told : goal.returns-in_default-line-clause-told
returns-in_default-line-clause-told g c =
    told_none g.W.Sink.written g.W.Sink.is_open g.W.Sink.faults c.args.out.now (sent_by g.O.Origin.source g.O.Origin.orders g.O.Origin.fit (start_now (book_of g.D.Drive.state c.args.book)).label) (keep_of g.D.Drive.state c.give_up-in_default-line.result.book.keep)
    c.args.book.marks c.give_up-in_default-line.result.book.marks c.give_up-in_default-line.result.outcome.end c.give_up-in_default-line.result.outcome.told c.give_up-in_default-line.result.put_failed c.requires.sink c.give_up-in_default-line.ensures.told c.give_up-in_default-line.ensures.memory
