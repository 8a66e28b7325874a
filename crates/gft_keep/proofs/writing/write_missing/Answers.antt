use Rattle.std.proofs.Common.{◌≡◌, ◌+◌, ◌-◌, ◌≤◌, ℕ, List, length, take, drop, arith, rules, refl, sym, ap, ◌∙◌, subst, length-drop}
use Rattle.std.proofs.lemmas.List.{length-take-le}
use Rattle.gft_range.specs.declared.Range.{Range}
use Rattle.gft_range.specs.Words.{IsMissing}
use Rattle.gft_drive.specs.Words.{Written}
use Rattle.gft_drive.specs.declared.Part.TheVariants.{Bytes}
use Rattle.gft_drive.specs.Words.{Anything, Same, Torn}
use Rattle.gft_drive.proofs.Lemmas.{Reads-then, elapses_refl, elapses_trans}
use Rattle.gft_keep.specs.Store.{offset_count}
use Rattle.gft_keep.specs.Writing.{KeepsBytes, Writing}
use Rattle.gft_keep.proofs.Filling.{fills_all, in_block, keeps_more, keeps_none, left_after, left_at_first, writing_more, writing_none}
use Rattle.gft_keep.proofs.Counts.{offset_count-first, offset_count-within, one_missing}
use Rattle.gft_keep.proofs.Running.{leaves_none, leaves_then}
use Rattle.gft_keep.proofs.Stages.{leaves_sync}
use Rattle.gft_keep.proofs.writing.write_missing.Goals as goal

pub loop-gap-init : goal.loop-gap-init
loop-gap-init g c =
    let set = c.args.set.now.ranges in
    let is : IsMissing set c.args.block c.into_iter-gap-iterator.result = subst (λ (missing : List Range). IsMissing set c.args.block missing) (sym c.into_iter-gap-iterator.ensures.into_iter_gives) c.missing-gap-items.ensures.left_out in
    let left = left_at_first set c.args.block _ is in
    record {
      can = tt;
      finite = tt;
      left = left;
      writing = λ from told. (from, told, record { changed = writing_none set c.args.block c.args.bytes.now _ from.bytes is c.requires.block.size; kept = refl });
      any_moment = leaves_none Bytes (KeepsBytes set) (g.D.Drive.state c.args.drive.now) (keeps_none set);
      time = elapses_refl (g.D.Drive.state c.args.drive.now);
      faults = refl;
      bounded = omega (arith, offset_count-within set c.args.block _ left);
      counted = λ missing other. omega (arith, ap offset_count (one_missing set c.args.block _ missing is other));
    }

pub overflow_sub-from : goal.overflow_sub-from
overflow_sub-from g c = (in_block c.args.set.now.ranges c.args.block _ c.in-Some.gap _ c.loop-gap.invariant.left c.in-Some.ensures.steps).0

pub overflow_sub-to : goal.overflow_sub-to
overflow_sub-to g c =
    let place = in_block c.args.set.now.ranges c.args.block _ c.in-Some.gap _ c.loop-gap.invariant.left c.in-Some.ensures.steps in
    omega arith

pub slice_bounds-write_at-end : goal.slice_bounds-write_at-end
slice_bounds-write_at-end g c =
    let place = in_block c.args.set.now.ranges c.args.block _ c.in-Some.gap _ c.loop-gap.invariant.left c.in-Some.ensures.steps in
    let fits : c.in-Some.gap.end - c.args.block.start ≤ length c.args.bytes.now = omega (arith, c.requires.block.size) in
    search rules

pub write_at-requires : goal.write_at-requires
write_at-requires g c =
    let place = in_block c.args.set.now.ranges c.args.block _ c.in-Some.gap _ c.loop-gap.invariant.left c.in-Some.ensures.steps in
    let from = c.in-Some.gap.start - c.args.block.start in
    let n = c.in-Some.gap.end - c.args.block.start - from in
    omega (arith, c.requires.block.size, length-take-le n (drop from c.args.bytes.now) (omega (arith, c.requires.block.size, length-drop from c.args.bytes.now)))

pub loop-gap-preserved : goal.loop-gap-preserved
loop-gap-preserved g c =
    let s = g.D.Drive.state in
    let laws = (g.met.D.Drive g.world.𝓛 g.world.𝓜 g.world.𝓡 ((λ s x. x), (λ x. x), (λ x. x), λ x. x)).lawful in
    let set = c.args.set.now.ranges in
    let kept = c.loop-gap.invariant in
    let first = c.in-Some.ensures.steps in
    let place = in_block set c.args.block _ c.in-Some.gap _ kept.left first in
    let from = c.in-Some.gap.start - c.args.block.start in
    let n = c.in-Some.gap.end - c.args.block.start - from in
    let part = take n (drop from c.args.bytes.now) in
    let size : c.in-Some.gap.start + length part ≡ c.in-Some.gap.end = omega (arith, c.requires.block.size, length-take-le n (drop from c.args.bytes.now) (omega (arith, c.requires.block.size, length-drop from c.args.bytes.now)), place) in
    let torn = leaves_then Bytes (KeepsBytes set) (Torn c.in-Some.gap.start (length part)) (KeepsBytes set) (s c.args.drive.now) (s c.loop-gap.drive) (s c.write_at.new.self) (laws c.loop-gap.drive) kept.any_moment c.write_at.ensures.crash kept.time c.write_at.ensures.only.time
    (λ xs ys keeps. keeps) (λ old d zs some may_old may_d keeps torn. keeps_more set c.args.block c.loop-gap.gap-iterator c.in-Some.gap c.next.new.self (length part) kept.left first size old.bytes d.bytes zs keeps torn) in
    let counts = offset_count-first c.loop-gap.gap-iterator c.in-Some.gap c.next.new.self first in
    record {
      can = tt;
      finite = tt;
      left = left_after set c.args.block c.loop-gap.gap-iterator c.in-Some.gap c.next.new.self kept.left first;
      writing = Reads-then Bytes (Writing set c.args.block c.args.bytes.now c.loop-gap.gap-iterator) (Written c.in-Some.gap.start _) (Writing set c.args.block c.args.bytes.now c.next.new.self) (g.D.Drive.state c.args.drive.now) (g.D.Drive.state c.loop-gap.drive) (g.D.Drive.state c.write_at.new.self) kept.writing c.in_ok-write_at.ensures.written
          (writing_more set c.args.block c.args.bytes.now c.loop-gap.gap-iterator c.in-Some.gap c.next.new.self _ kept.left first c.requires.block.size refl);
      any_moment = torn;
      time = elapses_trans (s c.args.drive.now) (s c.loop-gap.drive) (s c.write_at.new.self) (laws c.write_at.new.self) kept.time c.write_at.ensures.only.time;
      faults = c.in_ok-write_at.ensures.only.cause.kept ∙ kept.faults;
      bounded = omega (arith, kept.bounded, counts);
      counted = λ missing is. omega (arith, kept.counted missing is, counts);
    }

pub returns-clause-filled : goal.returns-clause-filled
returns-clause-filled g c =
    let set = c.args.set.now.ranges in
    let kept = c.loop-gap.invariant in
    λ from told.
    let here = kept.writing from told in (
      here.0,
      c.in_ok-sync.ensures.read ∙ here.1,
      record {
        changed = fills_all set c.args.block c.args.bytes.now _ (c.in-None.ensures.steps).0 from.bytes here.0.bytes (c.requires.there from told) here.2.changed;
        kept = here.2.kept;
      },
    )

pub returns-in_err-write_at-clause-any_moment : goal.returns-in_err-write_at-clause-any_moment
returns-in_err-write_at-clause-any_moment g c =
    let s = g.D.Drive.state in
    let laws = (g.met.D.Drive g.world.𝓛 g.world.𝓜 g.world.𝓡 ((λ s x. x), (λ x. x), (λ x. x), λ x. x)).lawful in
    let set = c.args.set.now.ranges in
    let kept = c.loop-gap.invariant in
    let first = c.in-Some.ensures.steps in
    let place = in_block set c.args.block _ c.in-Some.gap _ kept.left first in
    let from = c.in-Some.gap.start - c.args.block.start in
    let n = c.in-Some.gap.end - c.args.block.start - from in
    let part = take n (drop from c.args.bytes.now) in
    let size : c.in-Some.gap.start + length part ≡ c.in-Some.gap.end = omega (arith, c.requires.block.size, length-take-le n (drop from c.args.bytes.now) (omega (arith, c.requires.block.size, length-drop from c.args.bytes.now)), place) in
    let torn = leaves_then Bytes (KeepsBytes set) (Torn c.in-Some.gap.start (length part)) (KeepsBytes set) (s c.args.drive.now) (s c.loop-gap.drive) (s c.write_at.new.self) (laws c.loop-gap.drive) kept.any_moment c.write_at.ensures.crash kept.time c.write_at.ensures.only.time
    (λ xs ys keeps. keeps) (λ old d zs some may_old may_d keeps torn. keeps_more set c.args.block c.loop-gap.gap-iterator c.in-Some.gap c.next.new.self (length part) kept.left first size old.bytes d.bytes zs keeps torn) in
    torn

pub returns-in_err-write_at-clause-only : goal.returns-in_err-write_at-clause-only
returns-in_err-write_at-clause-only g c =
    let s = g.D.Drive.state in
    let laws = (g.met.D.Drive g.world.𝓛 g.world.𝓜 g.world.𝓡 ((λ s x. x), (λ x. x), (λ x. x), λ x. x)).lawful in
    let kept = c.loop-gap.invariant in
    record {
      other = Reads-then Bytes (Writing c.args.set.now.ranges c.args.block c.args.bytes.now c.loop-gap.gap-iterator) Anything Anything (s c.args.drive.now) (s c.loop-gap.drive) (s c.write_at.new.self) kept.writing c.write_at.ensures.only.other (λ xs ys zs a b. tt);
      time = elapses_trans (s c.args.drive.now) (s c.loop-gap.drive) (s c.write_at.new.self) (laws c.write_at.new.self) kept.time c.write_at.ensures.only.time;
      cause = search rules;
    }

pub returns-in_err-sync-clause-any_moment : goal.returns-in_err-sync-clause-any_moment
returns-in_err-sync-clause-any_moment g c =
    let s = g.D.Drive.state in
    let laws = (g.met.D.Drive g.world.𝓛 g.world.𝓜 g.world.𝓡 ((λ s x. x), (λ x. x), (λ x. x), λ x. x)).lawful in
    leaves_sync (KeepsBytes c.args.set.now.ranges) (s c.args.drive.now) (s c.loop-gap.drive) (s c.sync.new.self) (laws c.loop-gap.drive) c.loop-gap.invariant.any_moment c.sync.ensures.crash c.loop-gap.invariant.time c.sync.ensures.only.time

pub returns-in_err-sync-clause-only : goal.returns-in_err-sync-clause-only
returns-in_err-sync-clause-only g c =
    let s = g.D.Drive.state in
    let laws = (g.met.D.Drive g.world.𝓛 g.world.𝓜 g.world.𝓡 ((λ s x. x), (λ x. x), (λ x. x), λ x. x)).lawful in
    let kept = c.loop-gap.invariant in
    record {
      other = Reads-then Bytes (Writing c.args.set.now.ranges c.args.block c.args.bytes.now c.loop-gap.gap-iterator) Anything Anything (s c.args.drive.now) (s c.loop-gap.drive) (s c.sync.new.self) kept.writing c.sync.ensures.only.other (λ xs ys zs a b. tt);
      time = elapses_trans (s c.args.drive.now) (s c.loop-gap.drive) (s c.sync.new.self) (laws c.sync.new.self) kept.time c.sync.ensures.only.time;
      cause = search rules;
    }

pub returns-clause-any_moment : goal.returns-clause-any_moment
returns-clause-any_moment g c =
    let s = g.D.Drive.state in
    let laws = (g.met.D.Drive g.world.𝓛 g.world.𝓜 g.world.𝓡 ((λ s x. x), (λ x. x), (λ x. x), λ x. x)).lawful in
    leaves_sync (KeepsBytes c.args.set.now.ranges) (s c.args.drive.now) (s c.loop-gap.drive) (s c.sync.new.self) (laws c.loop-gap.drive) c.loop-gap.invariant.any_moment c.sync.ensures.crash c.loop-gap.invariant.time c.sync.ensures.only.time

pub returns-clause-only : goal.returns-clause-only
returns-clause-only g c =
    let s = g.D.Drive.state in
    let laws = (g.met.D.Drive g.world.𝓛 g.world.𝓜 g.world.𝓡 ((λ s x. x), (λ x. x), (λ x. x), λ x. x)).lawful in
    let kept = c.loop-gap.invariant in
    record {
      other = Reads-then Bytes (Writing c.args.set.now.ranges c.args.block c.args.bytes.now c.loop-gap.gap-iterator) Anything Anything (s c.args.drive.now) (s c.loop-gap.drive) (s c.sync.new.self) kept.writing c.sync.ensures.only.other (λ xs ys zs a b. tt);
      time = elapses_trans (s c.args.drive.now) (s c.loop-gap.drive) (s c.sync.new.self) (laws c.sync.new.self) kept.time c.sync.ensures.only.time;
      cause = search rules;
    }
