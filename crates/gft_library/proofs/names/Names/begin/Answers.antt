use Rattle.std.proofs.Common.{inl, inr, subst}
use Rattle.gft_library.specs.declared.seeking.Absent.{Absent}
use Rattle.gft_library.specs.Calls.{RefusesTransfer, absent_for}
use Rattle.gft_library.specs.Finding.{IsKeptFrom, asking}
use Rattle.gft_library.specs.Steps.{Brings}
use Rattle.gft_library.proofs.StepLemmas.{by_book}
use Rattle.gft_library.proofs.names.Names.begin.Goals as goal

pub returns-in-Err-clause-stores : goal.returns-in-Err-clause-stores
returns-in-Err-clause-stores g c =
    let call = asking {O = g.row.O.Denot} g.S.D.Drive.state g.S.Shelf.state c.args.self.now c.args.name.now in
    inl (subst (λ (absent : Absent). IsKeptFrom call absent c.bring.new.self c.in-Err.why) c.absent_for.ensures c.in-Err.ensures.brings)

pub returns-in-Ok-begin_on-clause-stores : goal.returns-in-Ok-begin_on-clause-stores
returns-in-Ok-begin_on-clause-stores g c =
    let call = asking {O = g.row.O.Denot} g.S.D.Drive.state g.S.Shelf.state c.args.self.now c.args.name.now in
    let brings = subst (λ (absent : Absent). Brings call absent c.bring.new.self c.in-Ok.book) c.absent_for.ensures c.in-Ok.ensures.brings in
    (c.in-Ok.book, brings.comes, brings.stands, c.in-Ok-begin_on.ensures.begins)

pub returns-in-Err-begin_on-clause-stores : goal.returns-in-Err-begin_on-clause-stores
returns-in-Err-begin_on-clause-stores g c =
    let call = asking {O = g.row.O.Denot} g.S.D.Drive.state g.S.Shelf.state c.args.self.now c.args.name.now in
    let brings = subst (λ (absent : Absent). Brings call absent c.bring.new.self c.in-Ok.book) c.absent_for.ensures c.in-Ok.ensures.brings in
    inr (by_book call (absent_for c.args.how) (RefusesTransfer g.S.D.Drive.state c.args.how c.in-Err-begin_on.why) c.bring.new.self c.keep.new.self c.in-Ok.book c.begin_on.new.book brings
    c.keep.ensures.puts c.keep.ensures.shelf c.in-Err-begin_on.ensures.begins)
