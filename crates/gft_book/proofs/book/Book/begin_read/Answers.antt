use Rattle.std.proofs.Common.{refl, sym, ◌∙◌, arith}
use Rattle.gft_drive.specs.Words.{sent_by}
use Rattle.gft_book.proofs.ChoiceLemmas.{some_there}
use Rattle.gft_book.proofs.ReaderLemmas.{BeginsRead-found, IsBook-read, IsBook-unread, OnlyReads-found, OnlyReads-same, ReadsEvents-found, no_transfer, some_reader}
use Rattle.gft_book.proofs.BeginLemmas.{counted_begin}
use Rattle.gft_book.proofs.book.Book.begin_read.Goals as goal

pub returns-in_default-clause-only : goal.returns-in_default-clause-only
returns-in_default-clause-only g c = rw (← c.self.view_is) (OnlyReads-same _ c.self.invariant.keep)

pub invariant_of-self : goal.invariant_of-self
invariant_of-self g c =
    IsBook-read (sent_by g.O.Origin.source g.O.Origin.orders g.O.Origin.fit) _ _ c.in-Some.readers c.self.invariant (some_reader c.self.inside.stage c.in-Some.readers (sym c.one_reader_more.ensures ∙ c.in-Some.is)) refl refl c.lend.ensures.keep c.lend.ensures.finds

pub invariant_of-self-in-Err : goal.invariant_of-self-in-Err
invariant_of-self-in-Err g c =
    IsBook-unread (sent_by g.O.Origin.source g.O.Origin.orders g.O.Origin.fit) _ _ c.self.invariant (no_transfer c.self.inside.stage (some_there _ _ (sym c.one_reader_more.ensures ∙ c.in-Some.is))) refl refl c.lend.ensures.keep c.lend.ensures.finds

pub returns-in-Ok-clause-begun : goal.returns-in-Ok-clause-begun
returns-in-Ok-clause-begun g c =
    rw (← c.self.view_is) (BeginsRead-found g.D.Drive.state (sent_by g.O.Origin.source g.O.Origin.orders g.O.Origin.fit) _ _ c.in-Some.readers c.args.drives c.in-Ok.reading.drives.items c.in-Ok.reading.len
    (IsBook-read (sent_by g.O.Origin.source g.O.Origin.orders g.O.Origin.fit) _ _ c.in-Some.readers c.self.invariant (some_reader c.self.inside.stage c.in-Some.readers (sym c.one_reader_more.ensures ∙ c.in-Some.is)) refl refl c.lend.ensures.keep c.lend.ensures.finds)
    (sym c.one_reader_more.ensures ∙ c.in-Some.is) refl c.lend.ensures.finds c.in-Ok.ensures.ready c.in-Ok.ensures.lent.0 c.in-Ok.ensures.lent.1 c.in-Ok.ensures.counts)

pub returns-in-Ok-clause-only : goal.returns-in-Ok-clause-only
returns-in-Ok-clause-only g c =
    rw (← c.self.view_is) (OnlyReads-found _ _ c.self.invariant.keep c.lend.ensures.keep c.lend.ensures.finds (let same = c.in-Ok.ensures.counts in omega (arith, same)) refl refl refl refl)

pub returns-in-Ok-clause-events : goal.returns-in-Ok-clause-events
returns-in-Ok-clause-events g c = rw (← c.self.view_is) (λ events f told. ReadsEvents-found _ _ events c.self.invariant.keep c.lend.ensures.keep refl c.lend.ensures.finds told f)

pub returns-in-Err-clause-only : goal.returns-in-Err-clause-only
returns-in-Err-clause-only g c =
    rw (← c.self.view_is) (OnlyReads-found _ _ c.self.invariant.keep c.lend.ensures.keep c.lend.ensures.finds (counted_begin c.in-Err.refusal _ _ c.in-Err.ensures.counts) refl refl refl refl)

pub returns-in-Err-clause-events : goal.returns-in-Err-clause-events
returns-in-Err-clause-events g c =
    rw (← c.self.view_is) (λ events f told. ReadsEvents-found _ _ events c.self.invariant.keep c.lend.ensures.keep (no_transfer c.self.inside.stage (some_there _ _ (sym c.one_reader_more.ensures ∙ c.in-Some.is))) c.lend.ensures.finds told f)
