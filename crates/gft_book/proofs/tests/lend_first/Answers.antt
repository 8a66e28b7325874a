use Rattle.std.proofs.Common.{◌≡◌, ℕ, arith}
use Rattle.std.specs.Prelude.{IfSome}
use Rattle.atomic_table.proofs.Lists.{at_index}
use Rattle.gft_book.specs.Book.{BookState, book_of}
use Rattle.gft_book.specs.Live.{start_at}
use Rattle.gft_book.specs.declared.transfer.Stage.{Stage}
use Rattle.gft_book.specs.declared.transfer.Stage.TheVariants.{Rest, Reading, Storing}
use Rattle.gft_book.proofs.LiveLemmas.{FillsLine-new, IsLaneOf-lane, IsLive-running}
use Rattle.gft_book.proofs.TotalLemmas.{KeepsTotal-start}
use Rattle.gft_book.proofs.PassesLemmas.{HasAllPasses-lane}
use Rattle.gft_book.proofs.tests.lend_first.Goals as goal

pub lend-requires-clause-live : goal.lend-requires-clause-live
lend-requires-clause-live g c κs within =
    IsLive-running _ (book_of g.D.Drive.state c.args.book) c.facts.ensures (c.running.ensures.running.0 c.if-running.true)

pub lend-requires-clause-total : goal.lend-requires-clause-total
lend-requires-clause-total g c κs within = let book = book_of g.D.Drive.state c.args.book in KeepsTotal-start book book.stage book.stage

-- a lock that is made of a Book alone knows no total
untold : (book : BookState) (stage : Stage) (P : ℕ → Type 0) → IfSome (start_at book stage).total P
untold book Rest P = tt
untold book (Reading readers) P = tt
untold book (Storing transfer) P = tt

pub lend-requires-clause-known : goal.lend-requires-clause-known
lend-requires-clause-known g c κs within = untold (book_of g.D.Drive.state c.args.book) c.args.book.stage (λ known. 1 ≡ known)

pub lend-requires-clause-pass : goal.lend-requires-clause-pass
lend-requires-clause-pass g c κs within =
    let passes = c.args.passes.now.items in
    let i = c.in-Some.ensures.item in
    let at = at_index passes 0 c.in-Some.pass.now i.3.0 i.1 in
    IsLaneOf-lane (book_of g.D.Drive.state c.args.book) c.in-Some.pass.now
    (HasAllPasses-lane c.args.book.stage passes 0 c.in-Some.pass.now c.requires.passes at (omega (arith, c.if-len-lt2.false, c.len.ensures)))

pub lend-requires-clause-line : goal.lend-requires-clause-line
lend-requires-clause-line g c κs within = FillsLine-new c.args.book.marks c.args.pusher c.requires.line
