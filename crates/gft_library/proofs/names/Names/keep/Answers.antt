use Rattle.gft_drive.specs.Words.{sent_by}
use Rattle.gft_library.proofs.NamesLemmas.{names_put}
use Rattle.gft_library.proofs.names.Names.keep.Goals as goal

pub invariant_of-self : goal.invariant_of-self
invariant_of-self g c =
    names_put g.S.D.Drive.state g.S.Shelf.state (sent_by g.O.Origin.source g.O.Origin.orders g.O.Origin.fit) c.self.inside.shelf c.self.inside.kept c.set.new.self c.args.name.now
    c.args.holding c.set.ensures c.requires.own c.self.invariant
