use Rattle.gft_keep.specs.Of.{keep_of}
use Rattle.gft_keep.proofs.Kept.{only_looks}
use Rattle.gft_keep.proofs.keep.Keep.twin.Goals as goal

pub returns-clause-looks : goal.returns-clause-looks
returns-clause-looks g c =
    let s = g.D.Drive.state in
    let laws = (g.met.D.Drive g.world.𝓛 g.world.𝓜 g.world.𝓡 ((λ s x. x), (λ x. x), (λ x. x), λ x. x)).lawful in
    only_looks (keep_of s c.args.self.now) (s c.twin.new.self) c.requires.whole (laws c.twin.new.self) c.twin.ensures.unchanged
