use Rattle.gft_journal.proofs.Attaching.{found_on}
use Rattle.gft_journal.proofs.opening.attach.Goals as goal

pub returns-clause-found : goal.returns-clause-found
returns-clause-found g c =
    let s = g.D.Drive.state in
    let laws = (g.met.D.Drive g.world.𝓛 g.world.𝓜 g.world.𝓡 ((λ s x. x), (λ x. x), (λ x. x), λ x. x)).lawful in
    found_on c.read_journal.result (s c.args.drive.now) (s c.sync.new.self) (s c.sync-2.new.self) (s c.read_journal.new.drive) (laws c.sync-2.new.self) (laws c.read_journal.new.drive)
    c.in-Ok.ensures.read c.in-Ok-sync.ensures.read c.in-Ok.ensures.durable c.in-Ok-sync.ensures.durable c.sync-2.ensures.crash c.sync-2.ensures.only.other c.sync-2.ensures.only.time c.read_journal.ensures.unchanged c.read_journal.ensures.found
