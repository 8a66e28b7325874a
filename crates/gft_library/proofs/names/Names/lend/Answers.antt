use Rattle.std.proofs.Common.{inr}
use Rattle.gft_drive.specs.Words.{sent_by}
use Rattle.gft_library.specs.Calls.{ByBook, IsNotRead, LendsFile, RefusesReader, unless_there}
use Rattle.gft_library.specs.Finding.{asking}
use Rattle.gft_library.proofs.StepLemmas.{by_book, of_answer}
use Rattle.gft_library.proofs.names.Names.lend.Goals as goal

pub returns-clause-lends : goal.returns-clause-lends
returns-clause-lends g c =
    let state = g.S.D.Drive.state in
    let sent = sent_by g.O.Origin.source g.O.Origin.orders g.O.Origin.fit in
    let call = asking {O = g.row.O.Denot} state g.S.Shelf.state c.args.self.now c.args.name.now in
    of_answer (λ reading. LendsFile state sent c.args.drives reading.drives.items reading.len c.in-Ok.book c.lend_of-answer.new.book)
    (λ reading. ByBook call unless_there c.keep.new.self (LendsFile state sent c.args.drives reading.drives.items reading.len))
    (λ why. RefusesReader state why c.in-Ok.book c.lend_of-answer.new.book) (IsNotRead call c.keep.new.self) c.lend_of-answer.result
    (λ reading done. by_book call unless_there (LendsFile state sent c.args.drives reading.drives.items reading.len) c.bring.new.self c.keep.new.self c.in-Ok.book c.lend_of-answer.new.book
    c.in-Ok.ensures.brings c.keep.ensures.puts c.keep.ensures.shelf done)
    (λ why done. inr (by_book call unless_there (RefusesReader state why) c.bring.new.self c.keep.new.self c.in-Ok.book c.lend_of-answer.new.book c.in-Ok.ensures.brings
    c.keep.ensures.puts c.keep.ensures.shelf done))
    c.lend_of-answer.ensures.lends
