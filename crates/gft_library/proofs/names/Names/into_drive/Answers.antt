use Rattle.gft_drive.specs.Words.{sent_by}
use Rattle.gft_library.proofs.NamesLemmas.{own_under}
use Rattle.gft_library.proofs.names.Names.into_drive.Goals as goal

pub returns-in-Some-clause-own : goal.returns-in-Some-clause-own
returns-in-Some-clause-own g c =
    c.into_drive.ensures.own c.args.name.now
    (own_under g.S.D.Drive.state g.S.Shelf.state (sent_by g.O.Origin.source g.O.Origin.orders g.O.Origin.fit) c.self.inside.shelf c.self.inside.kept c.args.name.now c.in-Some.holding
    c.self.invariant c.in-Some.ensures.was)
