use Rattle.std.proofs.Common.{◌≡◌, refl}
use Rattle.gft_keep.specs.Of.{keep_of}
use Rattle.gft_keep.proofs.Blocks.{block_stored, open_with, store_broken, store_leaves, stored_is_keep}
use Rattle.gft_keep.proofs.keep.Keep.change_over.Goals as goal

pub store_union-requires-clause-open : goal.store_union-requires-clause-open
store_union-requires-clause-open g c κs within = open_with (keep_of g.D.Drive.state c.args.self.now) c.args.self.now.set.ranges refl c.requires.open

pub returns-in-Ok-store_union-clause-any_moment : goal.returns-in-Ok-store_union-clause-any_moment
returns-in-Ok-store_union-clause-any_moment g c =
    let s = g.D.Drive.state in
    let laws = (g.met.D.Drive g.world.𝓛 g.world.𝓜 g.world.𝓡 ((λ s x. x), (λ x. x), (λ x. x), λ x. x)).lawful in
    let old = keep_of s c.args.self.now in
    let drive = s c.store_union.new.drive in
    record {
      keep = stored_is_keep old c.args.block c.args.bytes.now c.in-Ok.union.ranges drive c.store_union.new.journal c.requires.open c.requires.block.in_limit c.requires.fits c.in-Ok.ensures.union (laws c.store_union.new.drive) (c.in-Ok-store_union.ensures.stored.stands c.in-Ok.union.ranges c.in-Ok.ensures.union);
      any_moment = store_leaves old old.ranges refl c.args.block c.args.bytes.now c.requires.open drive (laws c.store_union.new.drive) c.store_union.ensures.torn;
      time = c.store_union.ensures.torn.time;
    }

pub returns-in-Ok-store_union-clause-stored : goal.returns-in-Ok-store_union-clause-stored
returns-in-Ok-store_union-clause-stored g c =
    let s = g.D.Drive.state in
    let old = keep_of s c.args.self.now in
    block_stored old old.ranges c.in-Ok.union.ranges c.args.block c.args.bytes.now c.in-Ok-store_union.written (s c.store_union.new.drive) c.store_union.new.journal c.store_union.new.journal refl c.requires.open c.requires.block c.in-Ok-store_union.ensures.stored c.in-Ok.ensures.union c.in-Ok-store_union.ensures.cause.kept

pub returns-in-Err-clause-any_moment : goal.returns-in-Err-clause-any_moment
returns-in-Err-clause-any_moment g c =
    let s = g.D.Drive.state in
    let laws = (g.met.D.Drive g.world.𝓛 g.world.𝓜 g.world.𝓡 ((λ s x. x), (λ x. x), (λ x. x), λ x. x)).lawful in
    let old = keep_of s c.args.self.now in
    let drive = s c.store_union.new.drive in
    record {
      keep = store_broken old old.ranges refl c.args.block c.args.bytes.now c.requires.open drive (laws c.store_union.new.drive) c.store_union.ensures.torn c.store_union.new.journal;
      any_moment = store_leaves old old.ranges refl c.args.block c.args.bytes.now c.requires.open drive (laws c.store_union.new.drive) c.store_union.ensures.torn;
      time = c.store_union.ensures.torn.time;
    }
