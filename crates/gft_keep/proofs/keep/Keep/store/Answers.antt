use Rattle.std.proofs.Common.{◌≡◌, ◌≤◌, ℕ, List, length, arith, refl, sym, ◌∙◌}
use Rattle.gft_range.specs.declared.Range.{Range}
use Rattle.gft_drive.specs.declared.TheConstants.{MAX_RANGES}
use Rattle.gft_keep.specs.Of.{keep_of}
use Rattle.gft_keep.specs.Steps.{block_of}
use Rattle.gft_keep.specs.Tearing.{HasFitUnion}
use Rattle.gft_keep.proofs.Blocks.{already_stored, fits_below, stays_open}
use Rattle.gft_keep.proofs.Full.{covered_not_full, is_full}
use Rattle.gft_keep.proofs.keep.Keep.store.Goals as goal
use Rattle.gft_keep.proofs.keep.Keep.store.Goals.{else-count-eq-MAX_RANGES-via-then-count-eq-MAX_RANGES+else-not-touches, else-count-eq-MAX_RANGES-via-else-count-eq-MAX_RANGES}

pub returns-then-covers-clause-any_moment : goal.returns-then-covers-clause-any_moment
returns-then-covers-clause-any_moment g c = stays_open (keep_of g.D.Drive.state c.args.self.now) c.args.offset c.args.bytes.now c.requires.open

pub returns-then-covers-clause-stored : goal.returns-then-covers-clause-stored
returns-then-covers-clause-stored g c = already_stored (keep_of g.D.Drive.state c.args.self.now) c.args.offset c.args.bytes.now c.requires.open (c.covers.ensures.each.0 c.if-covers.true)

pub returns-then-covers-clause-full : goal.returns-then-covers-clause-full
returns-then-covers-clause-full g c full = absurd (covered_not_full c.args.self.now.set.ranges (block_of c.args.offset c.args.bytes.now) c.covers.ensures.normal (c.covers.ensures.each.0 c.if-covers.true) full)

pub returns-then-not-touches-clause-any_moment : goal.returns-then-not-touches-clause-any_moment
returns-then-not-touches-clause-any_moment g c = stays_open (keep_of g.D.Drive.state c.args.self.now) c.args.offset c.args.bytes.now c.requires.open

pub returns-then-not-touches-clause-refused : goal.returns-then-not-touches-clause-refused
returns-then-not-touches-clause-refused g c =
    let set = c.args.self.now.set.ranges in
    let block = block_of c.args.offset c.args.bytes.now in
    record {
      shows = (refl, is_full set block c.count.ensures.normal (omega (arith, c.requires.block.0)) (sym c.count.ensures.count ∙ c.if-count-eq-MAX_RANGES.true) (c.touches.ensures.apart c.if-not-touches.true));
      same = record { ranges = refl; complete = refl; is_born = refl };
      kept = λ ne. refl;
    }

pub append-requires-clause-fits : goal.append-requires-clause-fits
append-requires-clause-fits g c κs within = elim c.else-count-eq-MAX_RANGES.branch [
  | else-count-eq-MAX_RANGES-via-then-count-eq-MAX_RANGES+else-not-touches w ↦ λ union is.
      let joined = w.touches.ensures.joined w.if-not-touches.false union is in
      omega (arith, joined, c.requires.open.unbroken.facts.few)
  | else-count-eq-MAX_RANGES-via-else-count-eq-MAX_RANGES w ↦ fits_below c.args.self.now.set.ranges (block_of c.args.offset c.args.bytes.now) c.requires.open.unbroken.facts.few (λ full. w.if-count-eq-MAX_RANGES.false (c.count.ensures.count ∙ full))
]

pub change_over-requires-clause-fits : goal.change_over-requires-clause-fits
change_over-requires-clause-fits g c κs within = elim c.else-count-eq-MAX_RANGES.branch [
  | else-count-eq-MAX_RANGES-via-then-count-eq-MAX_RANGES+else-not-touches w ↦ λ union is.
      let joined = w.touches.ensures.joined w.if-not-touches.false union is in
      omega (arith, joined, c.requires.open.unbroken.facts.few)
  | else-count-eq-MAX_RANGES-via-else-count-eq-MAX_RANGES w ↦ fits_below c.args.self.now.set.ranges (block_of c.args.offset c.args.bytes.now) c.requires.open.unbroken.facts.few (λ full. w.if-count-eq-MAX_RANGES.false (c.count.ensures.count ∙ full))
]
