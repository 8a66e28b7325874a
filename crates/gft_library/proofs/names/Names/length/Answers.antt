use Rattle.std.proofs.Common.{inr}
use Rattle.gft_drive.specs.Words.{sent_by}
use Rattle.gft_book.specs.Words.{book_of}
use Rattle.gft_library.specs.declared.answer.Word.TheVariants.{Length}
use Rattle.gft_library.specs.Calls.{IsNotRead, RefusesReader, SizesName, TellsLength, unless_there}
use Rattle.gft_library.specs.Finding.{asking}
use Rattle.gft_library.proofs.StepLemmas.{by_book, of_answer}
use Rattle.gft_library.proofs.names.Names.length.Goals as goal

pub returns-clause-length : goal.returns-clause-length
returns-clause-length g c =
    let state = g.S.D.Drive.state in
    let sent = sent_by g.O.Origin.source g.O.Origin.orders g.O.Origin.fit in
    let call = asking {O = g.row.O.Denot} state g.S.Shelf.state c.args.self.now c.args.name.now in
    of_answer (λ len. TellsLength sent (book_of state c.in-Ok.book) (book_of state c.length_of-answer.new.book) len) (λ len. SizesName sent call c.keep.new.self (Length len))
    (λ why. RefusesReader state why c.in-Ok.book c.length_of-answer.new.book) (IsNotRead call c.keep.new.self) c.length_of-answer.result
    (λ len done. by_book call unless_there (λ book now. TellsLength sent (book_of state book) (book_of state now) len) c.bring.new.self c.keep.new.self c.in-Ok.book c.length_of-answer.new.book
    c.in-Ok.ensures.brings c.keep.ensures.puts c.keep.ensures.shelf done)
    (λ why done. inr (by_book call unless_there (RefusesReader state why) c.bring.new.self c.keep.new.self c.in-Ok.book c.length_of-answer.new.book c.in-Ok.ensures.brings
    c.keep.ensures.puts c.keep.ensures.shelf done))
    c.length_of-answer.ensures.length
