use Rattle.std.proofs.Common.{◌∙◌, ap, refl, sym, true≢false}
use Rattle.std.specs.Prelude.{is_some}
use Rattle.gft_book.specs.Words.{book_of}
use Rattle.gft_receive.proofs.LastLemmas.{is_none, last_none, last_starved, last_told, marked_named}
use Rattle.gft_receive.proofs.teller.Teller.tell_last.Goals.{then-is_some-via-then-is_some, then-is_some-via-else-is_some+then-not-keeps_some}
use Rattle.gft_receive.proofs.teller.Teller.tell_last.Goals as goal

pub returns-then-is_some-clause-tells : goal.returns-then-is_some-clause-tells
returns-then-is_some-clause-tells g c =
    last_none g.W.Sink.written g.W.Sink.is_open g.W.Sink.faults c.args.out.now c.args.book.now.keep.set.ranges c.args.book.now.marks c.args.self.now.told
    (elim c.then-is_some.branch [
      | then-is_some-via-then-is_some w ↦ λ quiet some. true≢false (w.if-is_some.ensures ∙ ap (λ o. is_some o) quiet)
      | then-is_some-via-else-is_some+then-not-keeps_some w ↦ λ quiet some. true≢false (sym (w.if-not-keeps_some.ensures.some.1 some))
    ])

pub returns-in-Err-clause-tells : goal.returns-in-Err-clause-tells
returns-in-Err-clause-tells g c =
    last_starved g.W.Sink.written g.W.Sink.is_open g.W.Sink.faults c.args.out.now c.args.book.now.keep.set.ranges c.args.book.now.marks c.mark.new.self.marks c.args.self.now.told
    (ap (λ b. b.marks) c.in-Err.ensures.refused) (is_none c.args.self.now.told.error c.if-is_some.ensures)

pub tell-requires-clause-named : goal.tell-requires-clause-named
tell-requires-clause-named g c =
    marked_named (book_of g.D.Drive.state c.args.book.now) (book_of g.D.Drive.state c.mark.new.self) c.in-Ok.number c.in-Some.mark.now c.in-Ok.ensures.marked c.in-Some.ensures.mark (c.if-not-keeps_some.ensures.some.0 refl)

pub returns-clause-tells : goal.returns-clause-tells
returns-clause-tells g c =
    last_told g.W.Sink.written g.W.Sink.is_open g.W.Sink.faults c.args.out.now c.tell.new.out (book_of g.D.Drive.state c.args.book.now) (book_of g.D.Drive.state c.mark.new.self) c.in-Ok.number c.in-Some.mark.now c.args.self.now.told c.tell.new.self c.in-Ok.ensures.marked c.in-Some.ensures.mark c.tell.ensures.tells
