use Rattle.std.proofs.Common.{rules, ◌≡◌, List, refl, sym, subst}
use Rattle.gft_range.specs.declared.Range.{Range}
use Rattle.gft_range.specs.Words.{IsUnion}
use Rattle.gft_journal.specs.Words.{slots_left}
use Rattle.gft_keep.specs.Appending.{MissAtMost}
use Rattle.gft_keep.specs.Of.{keep_of}
use Rattle.gft_keep.specs.Tearing.{HasFitUnion}
use Rattle.gft_keep.proofs.Blocks.{block_stored, open_with, store_broken, store_leaves, stored_is_keep}
use Rattle.gft_keep.proofs.keep.Keep.append.Goals as goal

pub store_appended-requires-clause-open : goal.store_appended-requires-clause-open
store_appended-requires-clause-open g c κs within = open_with (keep_of g.D.Drive.state c.args.self.now) c.reserve.new.self.ranges c.reserve.ensures.ranges c.requires.open

pub store_appended-requires-clause-fits : goal.store_appended-requires-clause-fits
store_appended-requires-clause-fits g c κs within = subst (λ (rs : List Range). HasFitUnion rs c.args.block) (sym c.reserve.ensures.ranges) c.requires.fits

pub store_appended-requires-clause-room : goal.store_appended-requires-clause-room
store_appended-requires-clause-room g c κs within = subst (λ (rs : List Range). MissAtMost rs c.args.block (slots_left c.args.self.now.journal)) (sym c.reserve.ensures.ranges) c.requires.room

pub returns-in-Ok-clause-any_moment : goal.returns-in-Ok-clause-any_moment
returns-in-Ok-clause-any_moment g c =
    let s = g.D.Drive.state in
    let laws = (g.met.D.Drive g.world.𝓛 g.world.𝓜 g.world.𝓡 ((λ s x. x), (λ x. x), (λ x. x), λ x. x)).lawful in
    let old = keep_of s c.args.self.now in
    let set = c.reserve.new.self.ranges in
    let drive = s c.store_appended.new.drive in
    let union = c.insert.new.self.ranges in
    let is_union : IsUnion set c.args.block union = c.insert.ensures.union in
    record {
      keep = stored_is_keep old c.args.block c.args.bytes.now union drive c.store_appended.new.journal c.requires.open c.requires.block.in_limit c.requires.fits (subst (λ (rs : List Range). IsUnion rs c.args.block union) c.reserve.ensures.ranges is_union) (laws c.store_appended.new.drive) (c.in-Ok.ensures.stored.stands union is_union);
      any_moment = store_leaves old set c.reserve.ensures.ranges c.args.block c.args.bytes.now c.requires.open drive (laws c.store_appended.new.drive) c.store_appended.ensures.torn;
      time = c.store_appended.ensures.torn.time;
    }

pub returns-in-Ok-clause-stored : goal.returns-in-Ok-clause-stored
returns-in-Ok-clause-stored g c =
    let s = g.D.Drive.state in
    let old = keep_of s c.args.self.now in
    block_stored old c.reserve.new.self.ranges c.insert.new.self.ranges c.args.block c.args.bytes.now c.in-Ok.written (s c.store_appended.new.drive) c.store_appended.new.journal c.store_appended.new.journal c.reserve.ensures.ranges c.requires.open c.requires.block c.in-Ok.ensures.stored c.insert.ensures.union c.in-Ok.ensures.cause.kept

pub returns-in-Err-clause-any_moment : goal.returns-in-Err-clause-any_moment
returns-in-Err-clause-any_moment g c =
    let s = g.D.Drive.state in
    let laws = (g.met.D.Drive g.world.𝓛 g.world.𝓜 g.world.𝓡 ((λ s x. x), (λ x. x), (λ x. x), λ x. x)).lawful in
    let old = keep_of s c.args.self.now in
    let set = c.reserve.new.self.ranges in
    let drive = s c.store_appended.new.drive in
    record {
      keep = store_broken old set c.reserve.ensures.ranges c.args.block c.args.bytes.now c.requires.open drive (laws c.store_appended.new.drive) c.store_appended.ensures.torn c.store_appended.new.journal;
      any_moment = store_leaves old set c.reserve.ensures.ranges c.args.block c.args.bytes.now c.requires.open drive (laws c.store_appended.new.drive) c.store_appended.ensures.torn;
      time = c.store_appended.ensures.torn.time;
    }

pub returns-in-Err-clause-refused : goal.returns-in-Err-clause-refused
returns-in-Err-clause-refused g c = record {
  shows = (c.in-Err.ensures.cause.failed, refl);
  same = record { ranges = c.reserve.ensures.ranges; complete = refl; is_born = refl };
  kept = λ ne. absurd (ne refl);
}
