use Rattle.std.proofs.Common.{◌≡◌, refl}
use Rattle.gft_keep.specs.Changing.{EmptiesSoundly, FinishesSoundly, ReopensSoundly}
use Rattle.gft_keep.specs.Of.{keep_of}
use Rattle.gft_keep.specs.Steps.{Empties, Finishes, Reopens}
use Rattle.gft_keep.proofs.Kept.{broken_is_keep, finished_is_keep, len_in_limit, may_finish, unbroken_ready}
use Rattle.gft_keep.proofs.Running.{since_leaves}
use Rattle.gft_keep.proofs.keep.Keep.finish.Goals as goal

pub finish_at-requires-clause-ready : goal.finish_at-requires-clause-ready
finish_at-requires-clause-ready g c κs within = unbroken_ready (keep_of g.D.Drive.state c.args.self.now) c.requires.unbroken

pub finish_at-requires-clause-exact : goal.finish_at-requires-clause-exact
finish_at-requires-clause-exact g c κs within = may_finish (keep_of g.D.Drive.state c.args.self.now) c.requires.unbroken c.args.len c.requires.exact c.requires.mark

pub finish_at-requires-clause-in_limit : goal.finish_at-requires-clause-in_limit
finish_at-requires-clause-in_limit g c κs within = len_in_limit (keep_of g.D.Drive.state c.args.self.now) c.requires.unbroken c.args.len c.requires.exact

pub returns-in-Ok-clause-any_moment : goal.returns-in-Ok-clause-any_moment
returns-in-Ok-clause-any_moment g c =
    let s = g.D.Drive.state in
    let laws = (g.met.D.Drive g.world.𝓛 g.world.𝓜 g.world.𝓡 ((λ s x. x), (λ x. x), (λ x. x), λ x. x)).lawful in
    let old = keep_of s c.args.self.now in
    let since = c.finish_at.ensures.since in
    record {
      keep = finished_is_keep old (s c.finish_at.new.drive) c.args.len c.finish_at.new.journal c.requires.unbroken (laws c.finish_at.new.drive) (len_in_limit old c.requires.unbroken c.args.len c.requires.exact) since.time c.in-Ok.ensures.finished;
      any_moment = since_leaves (FinishesSoundly c.args.len) (Finishes c.args.len) old.drive (s c.finish_at.new.drive) c.requires.unbroken.facts.lawful since (λ read image told is. is.done);
      time = since.time;
    }

pub returns-in-Err-clause-any_moment : goal.returns-in-Err-clause-any_moment
returns-in-Err-clause-any_moment g c =
    let s = g.D.Drive.state in
    let laws = (g.met.D.Drive g.world.𝓛 g.world.𝓜 g.world.𝓡 ((λ s x. x), (λ x. x), (λ x. x), λ x. x)).lawful in
    let old = keep_of s c.args.self.now in
    let since = c.finish_at.ensures.since in
    record {
      keep = broken_is_keep (Finishes c.args.len) old (s c.finish_at.new.drive) c.finish_at.new.journal (λ read image is. is.stays) c.requires.unbroken (laws c.finish_at.new.drive) since;
      any_moment = since_leaves (FinishesSoundly c.args.len) (Finishes c.args.len) old.drive (s c.finish_at.new.drive) c.requires.unbroken.facts.lawful since (λ read image told is. is.done);
      time = since.time;
    }
