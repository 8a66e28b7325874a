use Rattle.gft_library.specs.Answers.{RefusedWith}
use Rattle.gft_library.specs.Calls.{IsNotStored, StoresName}
use Rattle.gft_library.specs.Finding.{asking}
use Rattle.gft_library.specs.Names.{NamesSeen}
use Rattle.gft_library.proofs.StepLemmas.{of_ok}
use Rattle.gft_library.proofs.library.Library.store.Goals as goal

pub returns-clause-stores : goal.returns-clause-stores
returns-clause-stores g c =
    let state = g.S.D.Drive.state in
    let shelf = g.S.Shelf.state in
    let name = c.args.name.now in
    let call = asking {O = g.row.O.Denot} state shelf c.deref_mut.result.now name in
    of_ok (λ storing. StoresName call c.args.how c.args.lanes c.store.new.self storing.passes.items storing.book)
    (λ storing. (old new : NamesSeen g.row.S-D.Denot g.row.O.Denot g.row.S.Denot)
    × StoresName (asking state shelf old name) c.args.how c.args.lanes new storing.passes.items storing.book)
    (λ answer. RefusedWith answer.word (IsNotStored call c.args.how c.store.new.self)) c.store.result (λ storing stores. (c.deref_mut.result.now, c.store.new.self, stores))
    c.store.ensures.stores
