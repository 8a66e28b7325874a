use Rattle.std.proofs.Common.{◌≡◌, refl}
use Rattle.gft_keep.specs.Changing.{EmptiesSoundly, FinishesSoundly, ReopensSoundly}
use Rattle.gft_keep.specs.Of.{keep_of}
use Rattle.gft_keep.specs.Steps.{Empties, Finishes, Reopens}
use Rattle.gft_keep.proofs.Kept.{broken_is_keep, names_set, resumed_is_keep, unbroken_ready, unmarked_read}
use Rattle.std.proofs.Common.{sym, ◌∙◌}
use Rattle.gft_keep.proofs.Running.{since_leaves}
use Rattle.gft_keep.proofs.keep.Keep.resume.Goals as goal

pub reopen-requires-clause-ready : goal.reopen-requires-clause-ready
reopen-requires-clause-ready g c κs within = unbroken_ready (keep_of g.D.Drive.state c.args.self.now) c.requires.unbroken

pub reopen-requires-clause-names : goal.reopen-requires-clause-names
reopen-requires-clause-names g c κs within = names_set (keep_of g.D.Drive.state c.args.self.now) c.requires.unbroken

pub reopen-requires-clause-marked : goal.reopen-requires-clause-marked
reopen-requires-clause-marked g c κs within none = unmarked_read (keep_of g.D.Drive.state c.args.self.now) c.requires.unbroken (sym c.is_some-marked.ensures ∙ none)

pub returns-in-Ok-clause-any_moment : goal.returns-in-Ok-clause-any_moment
returns-in-Ok-clause-any_moment g c =
    let s = g.D.Drive.state in
    let laws = (g.met.D.Drive g.world.𝓛 g.world.𝓜 g.world.𝓡 ((λ s x. x), (λ x. x), (λ x. x), λ x. x)).lawful in
    let old = keep_of s c.args.self.now in
    let since = c.reopen.ensures.since in
    record {
      keep = resumed_is_keep old (s c.reopen.new.drive) c.reopen.new.journal c.requires.unbroken (laws c.reopen.new.drive) since.time c.in-Ok.ensures.reopened;
      any_moment = since_leaves ReopensSoundly Reopens old.drive (s c.reopen.new.drive) c.requires.unbroken.facts.lawful since (λ read image told is. is.done);
      time = since.time;
    }

pub returns-in-Err-clause-any_moment : goal.returns-in-Err-clause-any_moment
returns-in-Err-clause-any_moment g c =
    let s = g.D.Drive.state in
    let laws = (g.met.D.Drive g.world.𝓛 g.world.𝓜 g.world.𝓡 ((λ s x. x), (λ x. x), (λ x. x), λ x. x)).lawful in
    let old = keep_of s c.args.self.now in
    let since = c.reopen.ensures.since in
    record {
      keep = broken_is_keep Reopens old (s c.reopen.new.drive) c.reopen.new.journal (λ read image is. is.stays) c.requires.unbroken (laws c.reopen.new.drive) since;
      any_moment = since_leaves ReopensSoundly Reopens old.drive (s c.reopen.new.drive) c.requires.unbroken.facts.lawful since (λ read image told is. is.done);
      time = since.time;
    }
