use Rattle.std.proofs.Common.{rules, ◌≡◌, ◌+◌, ◌≤◌, ℕ, List, ◌∷◌, length, arith, refl, sym, ap, ◌∙◌, subst}
use Rattle.gft_range.specs.declared.Range.{Range}
use Rattle.gft_range.specs.Words.{IsMissing}
use Rattle.gft_drive.specs.Words.{Anything}
use Rattle.gft_drive.specs.declared.Part.TheVariants.{Ranges}
use Rattle.gft_drive.proofs.Lemmas.{Reads-then, Reads-weaker, elapses_refl, elapses_trans}
use Rattle.gft_keep.specs.Appending.{AddsAllBut, AddsFront, AddsMissing}
use Rattle.gft_keep.proofs.Appends.{adds_all, adds_none, append_leaves, append_reads, first_range}
use Rattle.gft_keep.proofs.Filling.{left_after, left_at_first}
use Rattle.gft_keep.proofs.Running.{leaves_none}
use Rattle.gft_keep.proofs.writing.append_missing.Goals as goal

pub loop-gap-init : goal.loop-gap-init
loop-gap-init g c =
    let s = g.D.Drive.state in
    let set = c.args.set.now.ranges in
    let is : IsMissing set c.args.block c.into_iter-gap-iterator.result = subst (λ (missing : List Range). IsMissing set c.args.block missing) (sym c.into_iter-gap-iterator.ensures.into_iter_gives) c.missing-gap-items.ensures.left_out in
    record {
      can = tt;
      finite = tt;
      left = left_at_first set c.args.block _ is;
      room = c.requires.room c.into_iter-gap-iterator.result is;
      stands = c.requires.stands;
      reads = λ from told. (from, told, record { changed = adds_none set c.args.block _ is from.ranges; kept = refl });
      any_moment = leaves_none Ranges (AddsFront set c.args.block) (s c.args.drive.now) (λ xs. record { left = c.into_iter-gap-iterator.result; adds = adds_none set c.args.block _ is xs });
      time = elapses_refl (s c.args.drive.now);
      faults = refl;
    }

pub append-requires-clause-stands : goal.append-requires-clause-stands
append-requires-clause-stands g c κs within = c.loop-gap.invariant.stands

pub append-requires-clause-room : goal.append-requires-clause-room
append-requires-clause-room g c κs within =
    let size : length c.loop-gap.gap-iterator ≡ length (c.in-Some.gap ∷ c.next.new.self) = ap length c.in-Some.ensures.steps in
    omega (arith, size, c.loop-gap.invariant.room)

pub append-requires-clause-range : goal.append-requires-clause-range
append-requires-clause-range g c κs within = first_range c.args.set.now.ranges c.args.block c.loop-gap.gap-iterator c.in-Some.gap c.next.new.self c.loop-gap.invariant.left c.in-Some.ensures.steps c.requires.in_limit

pub loop-gap-preserved : goal.loop-gap-preserved
loop-gap-preserved g c =
    let s = g.D.Drive.state in
    let laws = (g.met.D.Drive g.world.𝓛 g.world.𝓜 g.world.𝓡 ((λ s x. x), (λ x. x), (λ x. x), λ x. x)).lawful in
    let set = c.args.set.now.ranges in
    let kept = c.loop-gap.invariant in
    let first = c.in-Some.ensures.steps in
    let leaves = append_leaves set c.args.block c.loop-gap.gap-iterator c.in-Some.gap c.next.new.self first (s c.args.drive.now) (s c.loop-gap.drive) (s c.append.new.drive) c.loop-gap.journal (laws c.loop-gap.drive) c.requires.stands.synced kept.stands kept.reads kept.any_moment c.append.ensures.any_moment kept.time c.append.ensures.time in
    let size : length c.loop-gap.gap-iterator ≡ length (c.in-Some.gap ∷ c.next.new.self) = ap length first in
    record {
      can = tt;
      finite = tt;
      left = left_after set c.args.block c.loop-gap.gap-iterator c.in-Some.gap c.next.new.self kept.left first;
      room = omega (arith, size, kept.room, c.in_ok-append.ensures.slots);
      stands = c.in_ok-append.ensures.stands;
      reads = append_reads set c.args.block c.loop-gap.gap-iterator c.in-Some.gap c.next.new.self first (s c.args.drive.now) (s c.loop-gap.drive) (s c.append.new.drive) c.loop-gap.journal (laws c.loop-gap.drive) c.requires.stands.synced kept.stands kept.reads c.in_ok-append.ensures.added;
      any_moment = leaves;
      time = elapses_trans (s c.args.drive.now) (s c.loop-gap.drive) (s c.append.new.drive) (laws c.append.new.drive) kept.time c.append.ensures.time;
      faults = c.in_ok-append.ensures.cause.kept ∙ kept.faults;
    }

pub returns-in_err-append-clause-any_moment : goal.returns-in_err-append-clause-any_moment
returns-in_err-append-clause-any_moment g c =
    let s = g.D.Drive.state in
    let laws = (g.met.D.Drive g.world.𝓛 g.world.𝓜 g.world.𝓡 ((λ s x. x), (λ x. x), (λ x. x), λ x. x)).lawful in
    let set = c.args.set.now.ranges in
    let kept = c.loop-gap.invariant in
    let first = c.in-Some.ensures.steps in
    let leaves = append_leaves set c.args.block c.loop-gap.gap-iterator c.in-Some.gap c.next.new.self first (s c.args.drive.now) (s c.loop-gap.drive) (s c.append.new.drive) c.loop-gap.journal (laws c.loop-gap.drive) c.requires.stands.synced kept.stands kept.reads kept.any_moment c.append.ensures.any_moment kept.time c.append.ensures.time in
    leaves

pub returns-in_err-append-clause-passes : goal.returns-in_err-append-clause-passes
returns-in_err-append-clause-passes g c =
    let s = g.D.Drive.state in
    let laws = (g.met.D.Drive g.world.𝓛 g.world.𝓜 g.world.𝓡 ((λ s x. x), (λ x. x), (λ x. x), λ x. x)).lawful in
    record { time = elapses_trans (s c.args.drive.now) (s c.loop-gap.drive) (s c.append.new.drive) (laws c.append.new.drive) c.loop-gap.invariant.time c.append.ensures.time; cause = search rules }

pub returns-clause-added : goal.returns-clause-added
returns-clause-added g c = λ from told.
    let set = c.args.set.now.ranges in
    let last = c.loop-gap.invariant.reads from told in
    (last.0, last.1, record { changed = adds_all set c.args.block _ (c.in-None.ensures.steps).0 from.ranges last.0.ranges last.2.changed; kept = last.2.kept })

pub returns-clause-passes : goal.returns-clause-passes
returns-clause-passes g c = record { time = c.loop-gap.invariant.time; cause = search rules }

pub returns-clause-stands : goal.returns-clause-stands
returns-clause-stands g c = c.loop-gap.invariant.stands

pub returns-clause-any_moment : goal.returns-clause-any_moment
returns-clause-any_moment g c = c.loop-gap.invariant.any_moment
