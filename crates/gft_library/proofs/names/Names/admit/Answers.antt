use Rattle.std.proofs.Common.{sym, subst}
use Rattle.gft_library.specs.declared.holding.Holding.TheVariants.{HandedOut}
use Rattle.gft_library.specs.Finding.{IsBarred, asking}
use Rattle.gft_library.specs.Names.{NamesSeen}
use Rattle.gft_library.proofs.StepLemmas.{barred_before}
use Rattle.gft_library.proofs.names.Names.admit.Goals as goal

pub returns-in-Err-clause-admits : goal.returns-in-Err-clause-admits
returns-in-Err-clause-admits g c =
    subst (λ (n : NamesSeen g.row.S-D.Denot g.row.O.Denot g.row.S.Denot). IsBarred (asking g.S.D.Drive.state g.S.Shelf.state n c.args.name.now) c.args.absent c.admit_new.new.self c.in-Err.why)
    c.self.view_is
    (barred_before g.S.D.Drive.state g.S.Shelf.state c.args.name.now c.self.inside.shelf c.self.inside.kept c.put.new.self HandedOut c.args.absent c.admit_new.new.self c.in-Err.why
    c.put.ensures.puts (sym c.in_default.ensures.was) c.in-Err.ensures.admits)
