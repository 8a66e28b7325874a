use Rattle.std.proofs.Common.{◌≡◌, refl}
use Rattle.gft_keep.specs.Changing.{EmptiesSoundly, FinishesSoundly, ReopensSoundly}
use Rattle.gft_keep.specs.Of.{keep_of}
use Rattle.gft_keep.specs.Steps.{Empties, Finishes, Reopens}
use Rattle.gft_keep.proofs.Kept.{emptying_is_keep, fresh_is_keep, unbroken_ready}
use Rattle.gft_keep.proofs.Running.{since_leaves}
use Rattle.gft_keep.proofs.keep.Keep.fresh.Goals as goal

pub empty-requires-clause-ready : goal.empty-requires-clause-ready
empty-requires-clause-ready g c κs within = unbroken_ready (keep_of g.D.Drive.state c.args.self.now) c.requires.unbroken

pub returns-in-Ok-clause-any_moment : goal.returns-in-Ok-clause-any_moment
returns-in-Ok-clause-any_moment g c =
    let s = g.D.Drive.state in
    let laws = (g.met.D.Drive g.world.𝓛 g.world.𝓜 g.world.𝓡 ((λ s x. x), (λ x. x), (λ x. x), λ x. x)).lawful in
    let old = keep_of s c.args.self.now in
    let since = c.empty.ensures.since in
    record {
      keep = fresh_is_keep old.drive (s c.empty.new.drive) c.clear.new.self.ranges old.standing c.empty.new.journal c.clear.ensures.ranges c.requires.unbroken.whole (laws c.empty.new.drive) since.time c.in-Ok.ensures.emptied;
      any_moment = since_leaves EmptiesSoundly Empties old.drive (s c.empty.new.drive) c.requires.unbroken.facts.lawful since (λ read image told is. is.done);
      time = since.time;
    }

pub returns-clause-any_moment : goal.returns-clause-any_moment
returns-clause-any_moment g c =
    let s = g.D.Drive.state in
    let laws = (g.met.D.Drive g.world.𝓛 g.world.𝓜 g.world.𝓡 ((λ s x. x), (λ x. x), (λ x. x), λ x. x)).lawful in
    let old = keep_of s c.args.self.now in
    let since = c.empty.ensures.since in
    record {
      keep = emptying_is_keep old (s c.empty.new.drive) c.empty.new.journal c.requires.unbroken (laws c.empty.new.drive) since;
      any_moment = since_leaves EmptiesSoundly Empties old.drive (s c.empty.new.drive) c.requires.unbroken.facts.lawful since (λ read image told is. is.done);
      time = since.time;
    }
