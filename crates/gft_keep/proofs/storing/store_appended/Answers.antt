use Rattle.std.proofs.Common.{rules, ◌≡◌, None, Result, Ok, Err, OnOk, refl}
use Rattle.gft_drive.specs.declared.Part.TheVariants.{Bytes, Ranges}
use Rattle.gft_drive.specs.Words.{OnPart}
use Rattle.gft_keep.specs.Tearing.{TornOpen, open_keep}
use Rattle.gft_keep.specs.Writing.{Fills, KeepsBytes}
use Rattle.gft_keep.specs.Appending.{AddsFront, AddsMissing}
use Rattle.gft_keep.proofs.Blocks.{HasBlock, TakesBlocks, HasWritten, appends, is_appended, is_written, stage_stores, start_open, takes_blocks, writes}
use Rattle.gft_keep.proofs.Kept.{exact_read, keep_there, unbroken_ready}
use Rattle.gft_keep.proofs.Stages.{IsStart, stage_bytes, stage_none, stage_ranges, stage_since}
use Rattle.gft_keep.proofs.storing.store_appended.Goals as goal

pub returns-in_err-written-clause-torn : goal.returns-in_err-written-clause-torn
returns-in_err-written-clause-torn g c =
    let s = g.D.Drive.state in
    let laws = (g.met.D.Drive g.world.𝓛 g.world.𝓜 g.world.𝓡 ((λ s x. x), (λ x. x), (λ x. x), λ x. x)).lawful in
    let set = c.args.set.now.ranges in
    let block = c.args.block in
    let bytes = c.args.bytes.now in
    let fills = c.requires.block in
    let keep = open_keep (s c.args.drive.now) set c.args.journal.now in
    let facts = c.requires.open.unbroken.facts in
    let stage0 = stage_none (TornOpen set block.start bytes) (TakesBlocks set) c.args.journal.now (s c.args.drive.now) (unbroken_ready keep c.requires.open.unbroken) (takes_blocks (s c.args.drive.now) set c.args.journal.now c.requires.open) (start_open set block bytes fills) in
    let since1 = stage_since (TornOpen set block.start bytes) (IsStart (TakesBlocks set)) (OnPart Bytes (KeepsBytes set)) c.args.journal.now (s c.args.drive.now) (s c.args.drive.now) (s c.write_missing.new.drive) (laws c.args.drive.now) (laws c.write_missing.new.drive) stage0 c.write_missing.ensures.any_moment c.write_missing.ensures.only.time (writes set block bytes fills) in
    since1

pub append_missing-requires-clause-stands : goal.append_missing-requires-clause-stands
append_missing-requires-clause-stands g c κs within =
    let s = g.D.Drive.state in
    let laws = (g.met.D.Drive g.world.𝓛 g.world.𝓜 g.world.𝓡 ((λ s x. x), (λ x. x), (λ x. x), λ x. x)).lawful in
    let set = c.args.set.now.ranges in
    let block = c.args.block in
    let bytes = c.args.bytes.now in
    let fills = c.requires.block in
    let keep = open_keep (s c.args.drive.now) set c.args.journal.now in
    let facts = c.requires.open.unbroken.facts in
    let stage0 = stage_none (TornOpen set block.start bytes) (TakesBlocks set) c.args.journal.now (s c.args.drive.now) (unbroken_ready keep c.requires.open.unbroken) (takes_blocks (s c.args.drive.now) set c.args.journal.now c.requires.open) (start_open set block bytes fills) in
    let since1 = stage_since (TornOpen set block.start bytes) (IsStart (TakesBlocks set)) (OnPart Bytes (KeepsBytes set)) c.args.journal.now (s c.args.drive.now) (s c.args.drive.now) (s c.write_missing.new.drive) (laws c.args.drive.now) (laws c.write_missing.new.drive) stage0 c.write_missing.ensures.any_moment c.write_missing.ensures.only.time (writes set block bytes fills) in
    let stage1 = stage_bytes (TornOpen set block.start bytes) (IsStart (TakesBlocks set)) (HasWritten set block bytes) (KeepsBytes set) (Fills set block bytes) c.args.journal.now (s c.args.drive.now) (s c.args.drive.now) (s c.write_missing.new.drive) (laws c.write_missing.new.drive) stage0 since1 c.in_ok-written.ensures.synced c.write_missing.ensures.any_moment c.in_ok-written.ensures.filled c.write_missing.ensures.only.time (is_written set block bytes) (λ read image written. written.sound) in
    stage1.ready.stands

pub returns-in_err-append_missing-clause-torn : goal.returns-in_err-append_missing-clause-torn
returns-in_err-append_missing-clause-torn g c =
    let s = g.D.Drive.state in
    let laws = (g.met.D.Drive g.world.𝓛 g.world.𝓜 g.world.𝓡 ((λ s x. x), (λ x. x), (λ x. x), λ x. x)).lawful in
    let set = c.args.set.now.ranges in
    let block = c.args.block in
    let bytes = c.args.bytes.now in
    let fills = c.requires.block in
    let keep = open_keep (s c.args.drive.now) set c.args.journal.now in
    let facts = c.requires.open.unbroken.facts in
    let stage0 = stage_none (TornOpen set block.start bytes) (TakesBlocks set) c.args.journal.now (s c.args.drive.now) (unbroken_ready keep c.requires.open.unbroken) (takes_blocks (s c.args.drive.now) set c.args.journal.now c.requires.open) (start_open set block bytes fills) in
    let since1 = stage_since (TornOpen set block.start bytes) (IsStart (TakesBlocks set)) (OnPart Bytes (KeepsBytes set)) c.args.journal.now (s c.args.drive.now) (s c.args.drive.now) (s c.write_missing.new.drive) (laws c.args.drive.now) (laws c.write_missing.new.drive) stage0 c.write_missing.ensures.any_moment c.write_missing.ensures.only.time (writes set block bytes fills) in
    let stage1 = stage_bytes (TornOpen set block.start bytes) (IsStart (TakesBlocks set)) (HasWritten set block bytes) (KeepsBytes set) (Fills set block bytes) c.args.journal.now (s c.args.drive.now) (s c.args.drive.now) (s c.write_missing.new.drive) (laws c.write_missing.new.drive) stage0 since1 c.in_ok-written.ensures.synced c.write_missing.ensures.any_moment c.in_ok-written.ensures.filled c.write_missing.ensures.only.time (is_written set block bytes) (λ read image written. written.sound) in
    stage_since (TornOpen set block.start bytes) (HasWritten set block bytes) (OnPart Ranges (AddsFront set block)) c.args.journal.now (s c.args.drive.now) (s c.write_missing.new.drive) (s c.append_missing.new.drive) (laws c.write_missing.new.drive) (laws c.append_missing.new.drive) stage1 c.append_missing.ensures.any_moment c.append_missing.ensures.passes.time (appends set block bytes fills facts.normal facts.few c.requires.some c.requires.fits)

pub returns-clause-torn : goal.returns-clause-torn
returns-clause-torn g c =
    let s = g.D.Drive.state in
    let laws = (g.met.D.Drive g.world.𝓛 g.world.𝓜 g.world.𝓡 ((λ s x. x), (λ x. x), (λ x. x), λ x. x)).lawful in
    let set = c.args.set.now.ranges in
    let block = c.args.block in
    let bytes = c.args.bytes.now in
    let fills = c.requires.block in
    let keep = open_keep (s c.args.drive.now) set c.args.journal.now in
    let facts = c.requires.open.unbroken.facts in
    let stage0 = stage_none (TornOpen set block.start bytes) (TakesBlocks set) c.args.journal.now (s c.args.drive.now) (unbroken_ready keep c.requires.open.unbroken) (takes_blocks (s c.args.drive.now) set c.args.journal.now c.requires.open) (start_open set block bytes fills) in
    let since1 = stage_since (TornOpen set block.start bytes) (IsStart (TakesBlocks set)) (OnPart Bytes (KeepsBytes set)) c.args.journal.now (s c.args.drive.now) (s c.args.drive.now) (s c.write_missing.new.drive) (laws c.args.drive.now) (laws c.write_missing.new.drive) stage0 c.write_missing.ensures.any_moment c.write_missing.ensures.only.time (writes set block bytes fills) in
    let stage1 = stage_bytes (TornOpen set block.start bytes) (IsStart (TakesBlocks set)) (HasWritten set block bytes) (KeepsBytes set) (Fills set block bytes) c.args.journal.now (s c.args.drive.now) (s c.args.drive.now) (s c.write_missing.new.drive) (laws c.write_missing.new.drive) stage0 since1 c.in_ok-written.ensures.synced c.write_missing.ensures.any_moment c.in_ok-written.ensures.filled c.write_missing.ensures.only.time (is_written set block bytes) (λ read image written. written.sound) in
    stage_since (TornOpen set block.start bytes) (HasWritten set block bytes) (OnPart Ranges (AddsFront set block)) c.args.journal.now (s c.args.drive.now) (s c.write_missing.new.drive) (s c.append_missing.new.drive) (laws c.write_missing.new.drive) (laws c.append_missing.new.drive) stage1 c.append_missing.ensures.any_moment c.append_missing.ensures.passes.time (appends set block bytes fills facts.normal facts.few c.requires.some c.requires.fits)

pub returns-clause-stored : goal.returns-clause-stored
returns-clause-stored g c =
    let s = g.D.Drive.state in
    let laws = (g.met.D.Drive g.world.𝓛 g.world.𝓜 g.world.𝓡 ((λ s x. x), (λ x. x), (λ x. x), λ x. x)).lawful in
    let set = c.args.set.now.ranges in
    let block = c.args.block in
    let bytes = c.args.bytes.now in
    let fills = c.requires.block in
    let keep = open_keep (s c.args.drive.now) set c.args.journal.now in
    let facts = c.requires.open.unbroken.facts in
    let stage0 = stage_none (TornOpen set block.start bytes) (TakesBlocks set) c.args.journal.now (s c.args.drive.now) (unbroken_ready keep c.requires.open.unbroken) (takes_blocks (s c.args.drive.now) set c.args.journal.now c.requires.open) (start_open set block bytes fills) in
    let since1 = stage_since (TornOpen set block.start bytes) (IsStart (TakesBlocks set)) (OnPart Bytes (KeepsBytes set)) c.args.journal.now (s c.args.drive.now) (s c.args.drive.now) (s c.write_missing.new.drive) (laws c.args.drive.now) (laws c.write_missing.new.drive) stage0 c.write_missing.ensures.any_moment c.write_missing.ensures.only.time (writes set block bytes fills) in
    let stage1 = stage_bytes (TornOpen set block.start bytes) (IsStart (TakesBlocks set)) (HasWritten set block bytes) (KeepsBytes set) (Fills set block bytes) c.args.journal.now (s c.args.drive.now) (s c.args.drive.now) (s c.write_missing.new.drive) (laws c.write_missing.new.drive) stage0 since1 c.in_ok-written.ensures.synced c.write_missing.ensures.any_moment c.in_ok-written.ensures.filled c.write_missing.ensures.only.time (is_written set block bytes) (λ read image written. written.sound) in
    let since2 = stage_since (TornOpen set block.start bytes) (HasWritten set block bytes) (OnPart Ranges (AddsFront set block)) c.args.journal.now (s c.args.drive.now) (s c.write_missing.new.drive) (s c.append_missing.new.drive) (laws c.write_missing.new.drive) (laws c.append_missing.new.drive) stage1 c.append_missing.ensures.any_moment c.append_missing.ensures.passes.time (appends set block bytes fills facts.normal facts.few c.requires.some c.requires.fits) in
    let stage2 = stage_ranges (TornOpen set block.start bytes) (HasWritten set block bytes) (HasBlock set block bytes) (AddsFront set block) (AddsMissing set block) c.args.journal.now c.append_missing.new.journal (s c.args.drive.now) (s c.write_missing.new.drive) (s c.append_missing.new.drive) (laws c.append_missing.new.drive) stage1 since2 c.in_ok-append_missing.ensures.stands c.append_missing.ensures.any_moment c.in_ok-append_missing.ensures.added c.append_missing.ensures.passes.time (is_appended set block bytes fills facts.normal facts.few c.requires.some c.requires.fits) (λ read image is. is.torn.torn.sound) in
    stage_stores set block bytes c.in_ok-written.written c.append_missing.new.journal (s c.args.drive.now) (s c.append_missing.new.drive) fills (laws c.append_missing.new.drive) since2.time (λ read told. (exact_read keep c.requires.open.unbroken read told).ranges) stage2 c.in_ok-written.ensures.count

pub write_missing-requires-clause-there : goal.write_missing-requires-clause-there
write_missing-requires-clause-there g c κs within = keep_there (open_keep (g.D.Drive.state c.args.drive.now) c.args.set.now.ranges c.args.journal.now) c.requires.open.unbroken
