use Rattle.gft_drive.specs.Words.{sent_by}
use Rattle.gft_library.specs.Answers.{RefusedWith}
use Rattle.gft_library.specs.Calls.{ByBook, IsNotRead, LendsFile, unless_there}
use Rattle.gft_library.specs.Finding.{asking}
use Rattle.gft_library.specs.Names.{NamesSeen}
use Rattle.gft_library.proofs.StepLemmas.{of_ok}
use Rattle.gft_library.proofs.library.Library.retrieve.Goals as goal

pub returns-clause-lends : goal.returns-clause-lends
returns-clause-lends g c =
    let state = g.S.D.Drive.state in
    let shelf = g.S.Shelf.state in
    let sent = sent_by g.O.Origin.source g.O.Origin.orders g.O.Origin.fit in
    let name = c.args.name.now in
    of_ok (λ reading. ByBook (asking {O = g.row.O.Denot} state shelf c.deref_mut.result.now name) unless_there c.retrieve.new.self
    (LendsFile state sent c.args.drives reading.drives.items reading.len))
    (λ reading. (old new : NamesSeen g.row.S-D.Denot g.row.O.Denot g.row.S.Denot)
    × ByBook (asking state shelf old name) unless_there new (LendsFile state sent c.args.drives reading.drives.items reading.len))
    (λ answer. RefusedWith answer.word (IsNotRead (asking {O = g.row.O.Denot} state shelf c.deref_mut.result.now name) c.retrieve.new.self)) c.retrieve.result
    (λ reading lends. (c.deref_mut.result.now, c.retrieve.new.self, lends)) c.retrieve.ensures.lends
