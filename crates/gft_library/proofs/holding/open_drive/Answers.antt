use Rattle.gft_drive.specs.Words.{sent_by}
use Rattle.gft_library.proofs.SourceLemmas.{rests_from}
use Rattle.gft_library.proofs.holding.open_drive.Goals as goal

pub returns-in-Err-clause-from : goal.returns-in-Err-clause-from
returns-in-Err-clause-from g c =
    let laws = (g.met.D.Drive g.world.𝓛 g.world.𝓜 g.world.𝓡 ((λ s x. x), (λ x. x), (λ x. x), λ x. x)).lawful in
    let rests = c.in-Err.ensures.failed.rests in
    rests_from (sent_by g.O.Origin.source g.O.Origin.orders g.O.Origin.fit) (g.D.Drive.state c.args.drive) (g.D.Drive.state c.in-Err.drive) (laws c.in-Err.drive) rests.time rests.images
    c.requires.from
