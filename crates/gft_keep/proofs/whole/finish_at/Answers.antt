use Rattle.std.proofs.Common.{◌≡◌, ◌<◌, ◌↔◌, List, ℕ, Some, Result, Ok, Err, OnOk, sym, ◌∙◌, subst}
use Rattle.gft_drive.specs.declared.Part.TheVariants.{Bytes, Ranges}
use Rattle.gft_drive.specs.Words.{Covers, CutTo, Image, OnPart, TornCut}
use Rattle.gft_drive.proofs.Lemmas.{elapses_trans, told_before}
use Rattle.gft_journal.specs.Words.{Completes, CompletesOrNot}
use Rattle.gft_keep.specs.Changing.{Soundly}
use Rattle.gft_keep.specs.Steps.{Finishes}
use Rattle.gft_keep.proofs.Changing.{CanFinish, IsCut, IsFinishedSoundly, completes, is_finished, start_cut, start_finishes, start_torn}
use Rattle.gft_keep.proofs.Stages.{IsStart, leaves_sync, reads_sync, stage_bytes, stage_none, stage_ranges, stage_since}
use Rattle.gft_keep.proofs.whole.finish_at.Goals as goal

by_sync : {T E A B C : Type 0} (result : Result T E) → OnOk result A → OnOk result B → (A → B → C) → OnOk result C
by_sync (Ok done) a b both = both a b
by_sync (Err failed) a b both = tt

pub returns-in_err-cut-clause-since : goal.returns-in_err-cut-clause-since
returns-in_err-cut-clause-since g c =
    let s = g.D.Drive.state in
    let laws = (g.met.D.Drive g.world.𝓛 g.world.𝓜 g.world.𝓡 ((λ s x. x), (λ x. x), (λ x. x), λ x. x)).lawful in
    let len = c.args.len in
    let stage0 = stage_none (Soundly (Finishes c.args.len)) (CanFinish len) c.args.journal.now (s c.args.drive.now) c.requires.ready (λ read told. record { exact = c.requires.exact.exact read told; mark = c.requires.exact.mark read told }) (start_finishes len) in
    let since1 = stage_since (Soundly (Finishes c.args.len)) (IsStart (CanFinish c.args.len)) (OnPart Bytes (TornCut len)) c.args.journal.now (s c.args.drive.now) (s c.args.drive.now) (s c.cut.new.self) (laws c.args.drive.now) (laws c.cut.new.self) stage0 c.cut.ensures.crash c.cut.ensures.only.time (start_torn len) in
    since1

pub returns-in_err-sync-clause-since : goal.returns-in_err-sync-clause-since
returns-in_err-sync-clause-since g c =
    let s = g.D.Drive.state in
    let laws = (g.met.D.Drive g.world.𝓛 g.world.𝓜 g.world.𝓡 ((λ s x. x), (λ x. x), (λ x. x), λ x. x)).lawful in
    let len = c.args.len in
    let stage0 = stage_none (Soundly (Finishes c.args.len)) (CanFinish len) c.args.journal.now (s c.args.drive.now) c.requires.ready (λ read told. record { exact = c.requires.exact.exact read told; mark = c.requires.exact.mark read told }) (start_finishes len) in
    let since1 = stage_since (Soundly (Finishes c.args.len)) (IsStart (CanFinish c.args.len)) (OnPart Bytes (TornCut len)) c.args.journal.now (s c.args.drive.now) (s c.args.drive.now) (s c.cut.new.self) (laws c.args.drive.now) (laws c.cut.new.self) stage0 c.cut.ensures.crash c.cut.ensures.only.time (start_torn len) in
    let leaves = leaves_sync (TornCut len) (s c.args.drive.now) (s c.cut.new.self) (s c.sync.new.self) (laws c.cut.new.self) c.cut.ensures.crash c.sync.ensures.crash c.cut.ensures.only.time c.sync.ensures.only.time in
    let time = elapses_trans (s c.args.drive.now) (s c.cut.new.self) (s c.sync.new.self) (laws c.sync.new.self) c.cut.ensures.only.time c.sync.ensures.only.time in
    let since2 = stage_since (Soundly (Finishes c.args.len)) (IsStart (CanFinish c.args.len)) (OnPart Bytes (TornCut len)) c.args.journal.now (s c.args.drive.now) (s c.args.drive.now) (s c.sync.new.self) (laws c.args.drive.now) (laws c.sync.new.self) stage0 leaves time (start_torn len) in
    since2

pub complete-requires-clause-stands : goal.complete-requires-clause-stands
complete-requires-clause-stands g c = λ lifetimes alive.
    let s = g.D.Drive.state in
    let laws = (g.met.D.Drive g.world.𝓛 g.world.𝓜 g.world.𝓡 ((λ s x. x), (λ x. x), (λ x. x), λ x. x)).lawful in
    let len = c.args.len in
    let stage0 = stage_none (Soundly (Finishes c.args.len)) (CanFinish len) c.args.journal.now (s c.args.drive.now) c.requires.ready (λ read told. record { exact = c.requires.exact.exact read told; mark = c.requires.exact.mark read told }) (start_finishes len) in
    let since1 = stage_since (Soundly (Finishes c.args.len)) (IsStart (CanFinish c.args.len)) (OnPart Bytes (TornCut len)) c.args.journal.now (s c.args.drive.now) (s c.args.drive.now) (s c.cut.new.self) (laws c.args.drive.now) (laws c.cut.new.self) stage0 c.cut.ensures.crash c.cut.ensures.only.time (start_torn len) in
    let leaves = leaves_sync (TornCut len) (s c.args.drive.now) (s c.cut.new.self) (s c.sync.new.self) (laws c.cut.new.self) c.cut.ensures.crash c.sync.ensures.crash c.cut.ensures.only.time c.sync.ensures.only.time in
    let time = elapses_trans (s c.args.drive.now) (s c.cut.new.self) (s c.sync.new.self) (laws c.sync.new.self) c.cut.ensures.only.time c.sync.ensures.only.time in
    let since2 = stage_since (Soundly (Finishes c.args.len)) (IsStart (CanFinish c.args.len)) (OnPart Bytes (TornCut len)) c.args.journal.now (s c.args.drive.now) (s c.args.drive.now) (s c.sync.new.self) (laws c.args.drive.now) (laws c.sync.new.self) stage0 leaves time (start_torn len) in
    let stage2 = stage_bytes (Soundly (Finishes c.args.len)) (IsStart (CanFinish c.args.len)) (IsCut len) (TornCut len) (CutTo len) c.args.journal.now (s c.args.drive.now) (s c.args.drive.now) (s c.sync.new.self) (laws c.sync.new.self) stage0 since2 c.in_ok-sync.ensures.durable leaves (reads_sync (CutTo len) (s c.args.drive.now) (s c.cut.new.self) (s c.sync.new.self) c.in_ok-cut.ensures.cut c.in_ok-sync.ensures.read) time (start_cut len) (λ read image is. is.finishes.sound) in
    stage2.ready.stands

pub complete-requires-clause-whole : goal.complete-requires-clause-whole
complete-requires-clause-whole g c = λ lifetimes alive image told.
    let s = g.D.Drive.state in
    let laws = (g.met.D.Drive g.world.𝓛 g.world.𝓜 g.world.𝓡 ((λ s x. x), (λ x. x), (λ x. x), λ x. x)).lawful in
    let len = c.args.len in
    let stage0 = stage_none (Soundly (Finishes c.args.len)) (CanFinish len) c.args.journal.now (s c.args.drive.now) c.requires.ready (λ read told. record { exact = c.requires.exact.exact read told; mark = c.requires.exact.mark read told }) (start_finishes len) in
    let since1 = stage_since (Soundly (Finishes c.args.len)) (IsStart (CanFinish c.args.len)) (OnPart Bytes (TornCut len)) c.args.journal.now (s c.args.drive.now) (s c.args.drive.now) (s c.cut.new.self) (laws c.args.drive.now) (laws c.cut.new.self) stage0 c.cut.ensures.crash c.cut.ensures.only.time (start_torn len) in
    let leaves = leaves_sync (TornCut len) (s c.args.drive.now) (s c.cut.new.self) (s c.sync.new.self) (laws c.cut.new.self) c.cut.ensures.crash c.sync.ensures.crash c.cut.ensures.only.time c.sync.ensures.only.time in
    let time = elapses_trans (s c.args.drive.now) (s c.cut.new.self) (s c.sync.new.self) (laws c.sync.new.self) c.cut.ensures.only.time c.sync.ensures.only.time in
    let since2 = stage_since (Soundly (Finishes c.args.len)) (IsStart (CanFinish c.args.len)) (OnPart Bytes (TornCut len)) c.args.journal.now (s c.args.drive.now) (s c.args.drive.now) (s c.sync.new.self) (laws c.args.drive.now) (laws c.sync.new.self) stage0 leaves time (start_torn len) in
    let stage2 = stage_bytes (Soundly (Finishes c.args.len)) (IsStart (CanFinish c.args.len)) (IsCut len) (TornCut len) (CutTo len) c.args.journal.now (s c.args.drive.now) (s c.args.drive.now) (s c.sync.new.self) (laws c.sync.new.self) stage0 since2 c.in_ok-sync.ensures.durable leaves (reads_sync (CutTo len) (s c.args.drive.now) (s c.cut.new.self) (s c.sync.new.self) c.in_ok-cut.ensures.cut c.in_ok-sync.ensures.read) time (start_cut len) (λ read image is. is.finishes.sound) in
    let was = told_before (s c.args.drive.now) (s c.sync.new.self) image time.goes told in
    let last = stage2.reads was.0 was.1 in
    let same : last.0 ≡ image = cc (last.1, told) in
    subst (λ (i : Image). (x : ℕ) → Covers i.ranges x ↔ (x < len)) same last.2.exact

pub returns-clause-since : goal.returns-clause-since
returns-clause-since g c =
    let s = g.D.Drive.state in
    let laws = (g.met.D.Drive g.world.𝓛 g.world.𝓜 g.world.𝓡 ((λ s x. x), (λ x. x), (λ x. x), λ x. x)).lawful in
    let len = c.args.len in
    let stage0 = stage_none (Soundly (Finishes c.args.len)) (CanFinish len) c.args.journal.now (s c.args.drive.now) c.requires.ready (λ read told. record { exact = c.requires.exact.exact read told; mark = c.requires.exact.mark read told }) (start_finishes len) in
    let since1 = stage_since (Soundly (Finishes c.args.len)) (IsStart (CanFinish c.args.len)) (OnPart Bytes (TornCut len)) c.args.journal.now (s c.args.drive.now) (s c.args.drive.now) (s c.cut.new.self) (laws c.args.drive.now) (laws c.cut.new.self) stage0 c.cut.ensures.crash c.cut.ensures.only.time (start_torn len) in
    let leaves = leaves_sync (TornCut len) (s c.args.drive.now) (s c.cut.new.self) (s c.sync.new.self) (laws c.cut.new.self) c.cut.ensures.crash c.sync.ensures.crash c.cut.ensures.only.time c.sync.ensures.only.time in
    let time = elapses_trans (s c.args.drive.now) (s c.cut.new.self) (s c.sync.new.self) (laws c.sync.new.self) c.cut.ensures.only.time c.sync.ensures.only.time in
    let since2 = stage_since (Soundly (Finishes c.args.len)) (IsStart (CanFinish c.args.len)) (OnPart Bytes (TornCut len)) c.args.journal.now (s c.args.drive.now) (s c.args.drive.now) (s c.sync.new.self) (laws c.args.drive.now) (laws c.sync.new.self) stage0 leaves time (start_torn len) in
    let stage2 = stage_bytes (Soundly (Finishes c.args.len)) (IsStart (CanFinish c.args.len)) (IsCut len) (TornCut len) (CutTo len) c.args.journal.now (s c.args.drive.now) (s c.args.drive.now) (s c.sync.new.self) (laws c.sync.new.self) stage0 since2 c.in_ok-sync.ensures.durable leaves (reads_sync (CutTo len) (s c.args.drive.now) (s c.cut.new.self) (s c.sync.new.self) c.in_ok-cut.ensures.cut c.in_ok-sync.ensures.read) time (start_cut len) (λ read image is. is.finishes.sound) in
    let since3 = stage_since (Soundly (Finishes c.args.len)) (IsCut len) (OnPart Ranges (CompletesOrNot len)) c.args.journal.now (s c.args.drive.now) (s c.sync.new.self) (s c.complete.new.drive) (laws c.sync.new.self) (laws c.complete.new.drive) stage2 c.complete.ensures.any_moment c.complete.ensures.time (completes len) in
    since3

pub returns-clause-finished : goal.returns-clause-finished
returns-clause-finished g c =
    let s = g.D.Drive.state in
    let laws = (g.met.D.Drive g.world.𝓛 g.world.𝓜 g.world.𝓡 ((λ s x. x), (λ x. x), (λ x. x), λ x. x)).lawful in
    let len = c.args.len in
    let stage0 = stage_none (Soundly (Finishes c.args.len)) (CanFinish len) c.args.journal.now (s c.args.drive.now) c.requires.ready (λ read told. record { exact = c.requires.exact.exact read told; mark = c.requires.exact.mark read told }) (start_finishes len) in
    let since1 = stage_since (Soundly (Finishes c.args.len)) (IsStart (CanFinish c.args.len)) (OnPart Bytes (TornCut len)) c.args.journal.now (s c.args.drive.now) (s c.args.drive.now) (s c.cut.new.self) (laws c.args.drive.now) (laws c.cut.new.self) stage0 c.cut.ensures.crash c.cut.ensures.only.time (start_torn len) in
    let leaves = leaves_sync (TornCut len) (s c.args.drive.now) (s c.cut.new.self) (s c.sync.new.self) (laws c.cut.new.self) c.cut.ensures.crash c.sync.ensures.crash c.cut.ensures.only.time c.sync.ensures.only.time in
    let time = elapses_trans (s c.args.drive.now) (s c.cut.new.self) (s c.sync.new.self) (laws c.sync.new.self) c.cut.ensures.only.time c.sync.ensures.only.time in
    let since2 = stage_since (Soundly (Finishes c.args.len)) (IsStart (CanFinish c.args.len)) (OnPart Bytes (TornCut len)) c.args.journal.now (s c.args.drive.now) (s c.args.drive.now) (s c.sync.new.self) (laws c.args.drive.now) (laws c.sync.new.self) stage0 leaves time (start_torn len) in
    let stage2 = stage_bytes (Soundly (Finishes c.args.len)) (IsStart (CanFinish c.args.len)) (IsCut len) (TornCut len) (CutTo len) c.args.journal.now (s c.args.drive.now) (s c.args.drive.now) (s c.sync.new.self) (laws c.sync.new.self) stage0 since2 c.in_ok-sync.ensures.durable leaves (reads_sync (CutTo len) (s c.args.drive.now) (s c.cut.new.self) (s c.sync.new.self) c.in_ok-cut.ensures.cut c.in_ok-sync.ensures.read) time (start_cut len) (λ read image is. is.finishes.sound) in
    let since3 = stage_since (Soundly (Finishes c.args.len)) (IsCut len) (OnPart Ranges (CompletesOrNot len)) c.args.journal.now (s c.args.drive.now) (s c.sync.new.self) (s c.complete.new.drive) (laws c.sync.new.self) (laws c.complete.new.drive) stage2 c.complete.ensures.any_moment c.complete.ensures.time (completes len) in
    by_sync c.complete.result c.complete.ensures.stands c.complete.ensures.completed (λ stands completed.
    let stage3 = stage_ranges (Soundly (Finishes c.args.len)) (IsCut len) (IsFinishedSoundly len) (CompletesOrNot len) (Completes len) c.args.journal.now c.complete.new.self (s c.args.drive.now) (s c.sync.new.self) (s c.complete.new.drive) (laws c.complete.new.drive) stage2 since3 stands c.complete.ensures.any_moment completed c.complete.ensures.time (is_finished len) (λ read image is. is.sound) in
    record { ready = stage3.ready; read = λ read told. let last = stage3.reads read told in (last.0, last.1, last.2.finished) })
