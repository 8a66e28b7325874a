use Rattle.std.proofs.Common.{◌≡◌, inl, inr, List, ℕ, Option, Some, None, Result, Ok, Err, OnOk, refl, subst}
use Rattle.gft_drive.specs.declared.Part.TheVariants.{Bytes, Ranges}
use Rattle.gft_drive.specs.Words.{CutTo, Image, OnPart, TornCut}
use Rattle.gft_drive.proofs.Lemmas.{elapses_trans}
use Rattle.gft_journal.specs.Words.{Bears, BearsOrNot, Becomes, BecomesOrNot}
use Rattle.gft_keep.specs.Changing.{Soundly}
use Rattle.gft_keep.specs.Steps.{Empties}
use Rattle.gft_keep.proofs.Changing.{IsBornFrom, IsEmptied, NamesNothing, cut_empty, cut_nothing, empties, named_nothing, reopens_refl, start_births, start_born}
use Rattle.gft_keep.proofs.Stages.{IsStart, leaves_sync, reads_sync, stage_bytes, stage_none, stage_ranges, stage_since}
use Rattle.gft_keep.proofs.whole.empty.Goals as goal

abbrev NoFacts : Image → Type 0
NoFacts read = Unit {0}

while_born : (read staged image : Image) → IsStart NoFacts read staged → OnPart Ranges BearsOrNot staged image → Soundly Empties read image
while_born read staged image start step = let is = start_births NoFacts read staged image start step in record { done = inl is.done; sound = is.sound }

while_cut : (read staged image : Image) → NamesNothing read staged → OnPart Bytes (TornCut 0) staged image → Soundly Empties read image
while_cut read staged image nothing torn = let is = cut_nothing (TornCut 0) read staged image nothing torn in record { done = inr is.none; sound = is.sound }

by_sync : {T E A B C : Type 0} (result : Result T E) → OnOk result A → OnOk result B → (A → B → C) → OnOk result C
by_sync (Ok done) a b both = both a b
by_sync (Err failed) a b both = tt

pub returns-in_err-birth-clause-since : goal.returns-in_err-birth-clause-since
returns-in_err-birth-clause-since g c =
    let s = g.D.Drive.state in
    let laws = (g.met.D.Drive g.world.𝓛 g.world.𝓜 g.world.𝓡 ((λ s x. x), (λ x. x), (λ x. x), λ x. x)).lawful in
    let stage0 = stage_none (Soundly Empties) NoFacts c.args.journal.now (s c.args.drive.now) c.requires.ready (λ read told. tt) (λ read sound facts. record { done = inl (reopens_refl read); sound = sound }) in
    let since1 = stage_since (Soundly Empties) (IsStart NoFacts) (OnPart Ranges BearsOrNot) c.args.journal.now (s c.args.drive.now) (s c.args.drive.now) (s c.birth.new.drive) (laws c.args.drive.now) (laws c.birth.new.drive) stage0 c.birth.ensures.any_moment c.birth.ensures.time while_born in
    since1

pub returns-in_err-rebase-clause-since : goal.returns-in_err-rebase-clause-since
returns-in_err-rebase-clause-since g c =
    let s = g.D.Drive.state in
    let laws = (g.met.D.Drive g.world.𝓛 g.world.𝓜 g.world.𝓡 ((λ s x. x), (λ x. x), (λ x. x), λ x. x)).lawful in
    let stage0 = stage_none (Soundly Empties) NoFacts c.args.journal.now (s c.args.drive.now) c.requires.ready (λ read told. tt) (λ read sound facts. record { done = inl (reopens_refl read); sound = sound }) in
    let since1 = stage_since (Soundly Empties) (IsStart NoFacts) (OnPart Ranges BearsOrNot) c.args.journal.now (s c.args.drive.now) (s c.args.drive.now) (s c.birth.new.drive) (laws c.args.drive.now) (laws c.birth.new.drive) stage0 c.birth.ensures.any_moment c.birth.ensures.time while_born in
    let stage1 = stage_ranges (Soundly Empties) (IsStart NoFacts) IsBornFrom BearsOrNot Bears c.args.journal.now c.birth.new.self (s c.args.drive.now) (s c.args.drive.now) (s c.birth.new.drive) (laws c.birth.new.drive) stage0 since1 c.in_ok-birth.ensures.stands c.birth.ensures.any_moment c.in_ok-birth.ensures.born c.birth.ensures.time (start_born NoFacts) (λ read image born. born.sound) in
    let since2 = stage_since (Soundly Empties) IsBornFrom (OnPart Ranges (BecomesOrNot c.args.none.now.ranges None)) c.birth.new.self (s c.args.drive.now) (s c.birth.new.drive) (s c.rebase.new.drive) (laws c.birth.new.drive) (laws c.rebase.new.drive) stage1 c.rebase.ensures.any_moment c.rebase.ensures.time (λ read staged image. empties c.args.none.now.ranges read staged image c.requires.none) in
    since2

pub returns-in_err-cut-clause-since : goal.returns-in_err-cut-clause-since
returns-in_err-cut-clause-since g c =
    let s = g.D.Drive.state in
    let laws = (g.met.D.Drive g.world.𝓛 g.world.𝓜 g.world.𝓡 ((λ s x. x), (λ x. x), (λ x. x), λ x. x)).lawful in
    let stage0 = stage_none (Soundly Empties) NoFacts c.args.journal.now (s c.args.drive.now) c.requires.ready (λ read told. tt) (λ read sound facts. record { done = inl (reopens_refl read); sound = sound }) in
    let since1 = stage_since (Soundly Empties) (IsStart NoFacts) (OnPart Ranges BearsOrNot) c.args.journal.now (s c.args.drive.now) (s c.args.drive.now) (s c.birth.new.drive) (laws c.args.drive.now) (laws c.birth.new.drive) stage0 c.birth.ensures.any_moment c.birth.ensures.time while_born in
    let stage1 = stage_ranges (Soundly Empties) (IsStart NoFacts) IsBornFrom BearsOrNot Bears c.args.journal.now c.birth.new.self (s c.args.drive.now) (s c.args.drive.now) (s c.birth.new.drive) (laws c.birth.new.drive) stage0 since1 c.in_ok-birth.ensures.stands c.birth.ensures.any_moment c.in_ok-birth.ensures.born c.birth.ensures.time (start_born NoFacts) (λ read image born. born.sound) in
    let since2 = stage_since (Soundly Empties) IsBornFrom (OnPart Ranges (BecomesOrNot c.args.none.now.ranges None)) c.birth.new.self (s c.args.drive.now) (s c.birth.new.drive) (s c.rebase.new.drive) (laws c.birth.new.drive) (laws c.rebase.new.drive) stage1 c.rebase.ensures.any_moment c.rebase.ensures.time (λ read staged image. empties c.args.none.now.ranges read staged image c.requires.none) in
    let stage2 = stage_ranges (Soundly Empties) IsBornFrom NamesNothing (BecomesOrNot c.args.none.now.ranges None) (Becomes c.args.none.now.ranges None) c.birth.new.self c.rebase.new.self (s c.args.drive.now) (s c.birth.new.drive) (s c.rebase.new.drive) (laws c.rebase.new.drive) stage1 since2 c.in_ok-rebase.ensures.stands c.rebase.ensures.any_moment c.in_ok-rebase.ensures.based c.rebase.ensures.time (λ read staged image. named_nothing c.args.none.now.ranges read staged image c.requires.none) (λ read image nothing. nothing.sound) in
    let since3 = stage_since (Soundly Empties) NamesNothing (OnPart Bytes (TornCut 0)) c.rebase.new.self (s c.args.drive.now) (s c.rebase.new.drive) (s c.cut.new.self) (laws c.rebase.new.drive) (laws c.cut.new.self) stage2 c.cut.ensures.crash c.cut.ensures.only.time while_cut in
    since3

pub returns-clause-since : goal.returns-clause-since
returns-clause-since g c =
    let s = g.D.Drive.state in
    let laws = (g.met.D.Drive g.world.𝓛 g.world.𝓜 g.world.𝓡 ((λ s x. x), (λ x. x), (λ x. x), λ x. x)).lawful in
    let stage0 = stage_none (Soundly Empties) NoFacts c.args.journal.now (s c.args.drive.now) c.requires.ready (λ read told. tt) (λ read sound facts. record { done = inl (reopens_refl read); sound = sound }) in
    let since1 = stage_since (Soundly Empties) (IsStart NoFacts) (OnPart Ranges BearsOrNot) c.args.journal.now (s c.args.drive.now) (s c.args.drive.now) (s c.birth.new.drive) (laws c.args.drive.now) (laws c.birth.new.drive) stage0 c.birth.ensures.any_moment c.birth.ensures.time while_born in
    let stage1 = stage_ranges (Soundly Empties) (IsStart NoFacts) IsBornFrom BearsOrNot Bears c.args.journal.now c.birth.new.self (s c.args.drive.now) (s c.args.drive.now) (s c.birth.new.drive) (laws c.birth.new.drive) stage0 since1 c.in_ok-birth.ensures.stands c.birth.ensures.any_moment c.in_ok-birth.ensures.born c.birth.ensures.time (start_born NoFacts) (λ read image born. born.sound) in
    let since2 = stage_since (Soundly Empties) IsBornFrom (OnPart Ranges (BecomesOrNot c.args.none.now.ranges None)) c.birth.new.self (s c.args.drive.now) (s c.birth.new.drive) (s c.rebase.new.drive) (laws c.birth.new.drive) (laws c.rebase.new.drive) stage1 c.rebase.ensures.any_moment c.rebase.ensures.time (λ read staged image. empties c.args.none.now.ranges read staged image c.requires.none) in
    let stage2 = stage_ranges (Soundly Empties) IsBornFrom NamesNothing (BecomesOrNot c.args.none.now.ranges None) (Becomes c.args.none.now.ranges None) c.birth.new.self c.rebase.new.self (s c.args.drive.now) (s c.birth.new.drive) (s c.rebase.new.drive) (laws c.rebase.new.drive) stage1 since2 c.in_ok-rebase.ensures.stands c.rebase.ensures.any_moment c.in_ok-rebase.ensures.based c.rebase.ensures.time (λ read staged image. named_nothing c.args.none.now.ranges read staged image c.requires.none) (λ read image nothing. nothing.sound) in
    let since3 = stage_since (Soundly Empties) NamesNothing (OnPart Bytes (TornCut 0)) c.rebase.new.self (s c.args.drive.now) (s c.rebase.new.drive) (s c.cut.new.self) (laws c.rebase.new.drive) (laws c.cut.new.self) stage2 c.cut.ensures.crash c.cut.ensures.only.time while_cut in
    let leaves = leaves_sync (TornCut 0) (s c.rebase.new.drive) (s c.cut.new.self) (s c.sync.new.self) (laws c.cut.new.self) c.cut.ensures.crash c.sync.ensures.crash c.cut.ensures.only.time c.sync.ensures.only.time in
    let time = elapses_trans (s c.rebase.new.drive) (s c.cut.new.self) (s c.sync.new.self) (laws c.sync.new.self) c.cut.ensures.only.time c.sync.ensures.only.time in
    let since4 = stage_since (Soundly Empties) NamesNothing (OnPart Bytes (TornCut 0)) c.rebase.new.self (s c.args.drive.now) (s c.rebase.new.drive) (s c.sync.new.self) (laws c.rebase.new.drive) (laws c.sync.new.self) stage2 leaves time while_cut in
    since4

pub returns-clause-emptied : goal.returns-clause-emptied
returns-clause-emptied g c =
    let s = g.D.Drive.state in
    let laws = (g.met.D.Drive g.world.𝓛 g.world.𝓜 g.world.𝓡 ((λ s x. x), (λ x. x), (λ x. x), λ x. x)).lawful in
    let stage0 = stage_none (Soundly Empties) NoFacts c.args.journal.now (s c.args.drive.now) c.requires.ready (λ read told. tt) (λ read sound facts. record { done = inl (reopens_refl read); sound = sound }) in
    let since1 = stage_since (Soundly Empties) (IsStart NoFacts) (OnPart Ranges BearsOrNot) c.args.journal.now (s c.args.drive.now) (s c.args.drive.now) (s c.birth.new.drive) (laws c.args.drive.now) (laws c.birth.new.drive) stage0 c.birth.ensures.any_moment c.birth.ensures.time while_born in
    let stage1 = stage_ranges (Soundly Empties) (IsStart NoFacts) IsBornFrom BearsOrNot Bears c.args.journal.now c.birth.new.self (s c.args.drive.now) (s c.args.drive.now) (s c.birth.new.drive) (laws c.birth.new.drive) stage0 since1 c.in_ok-birth.ensures.stands c.birth.ensures.any_moment c.in_ok-birth.ensures.born c.birth.ensures.time (start_born NoFacts) (λ read image born. born.sound) in
    let since2 = stage_since (Soundly Empties) IsBornFrom (OnPart Ranges (BecomesOrNot c.args.none.now.ranges None)) c.birth.new.self (s c.args.drive.now) (s c.birth.new.drive) (s c.rebase.new.drive) (laws c.birth.new.drive) (laws c.rebase.new.drive) stage1 c.rebase.ensures.any_moment c.rebase.ensures.time (λ read staged image. empties c.args.none.now.ranges read staged image c.requires.none) in
    let stage2 = stage_ranges (Soundly Empties) IsBornFrom NamesNothing (BecomesOrNot c.args.none.now.ranges None) (Becomes c.args.none.now.ranges None) c.birth.new.self c.rebase.new.self (s c.args.drive.now) (s c.birth.new.drive) (s c.rebase.new.drive) (laws c.rebase.new.drive) stage1 since2 c.in_ok-rebase.ensures.stands c.rebase.ensures.any_moment c.in_ok-rebase.ensures.based c.rebase.ensures.time (λ read staged image. named_nothing c.args.none.now.ranges read staged image c.requires.none) (λ read image nothing. nothing.sound) in
    let since3 = stage_since (Soundly Empties) NamesNothing (OnPart Bytes (TornCut 0)) c.rebase.new.self (s c.args.drive.now) (s c.rebase.new.drive) (s c.cut.new.self) (laws c.rebase.new.drive) (laws c.cut.new.self) stage2 c.cut.ensures.crash c.cut.ensures.only.time while_cut in
    let leaves = leaves_sync (TornCut 0) (s c.rebase.new.drive) (s c.cut.new.self) (s c.sync.new.self) (laws c.cut.new.self) c.cut.ensures.crash c.sync.ensures.crash c.cut.ensures.only.time c.sync.ensures.only.time in
    let time = elapses_trans (s c.rebase.new.drive) (s c.cut.new.self) (s c.sync.new.self) (laws c.sync.new.self) c.cut.ensures.only.time c.sync.ensures.only.time in
    let since4 = stage_since (Soundly Empties) NamesNothing (OnPart Bytes (TornCut 0)) c.rebase.new.self (s c.args.drive.now) (s c.rebase.new.drive) (s c.sync.new.self) (laws c.rebase.new.drive) (laws c.sync.new.self) stage2 leaves time while_cut in
    by_sync c.sync.result c.sync.ensures.durable c.sync.ensures.read (λ durable same.
    let stage4 = stage_bytes (Soundly Empties) NamesNothing IsEmptied (TornCut 0) (CutTo 0) c.rebase.new.self (s c.args.drive.now) (s c.rebase.new.drive) (s c.sync.new.self) (laws c.sync.new.self) stage2 since4 durable leaves (reads_sync (CutTo 0) (s c.rebase.new.drive) (s c.cut.new.self) (s c.sync.new.self) c.in_ok-cut.ensures.cut same) time cut_empty (λ read image is. is.sound) in
    record { ready = stage4.ready; read = λ read told. let last = stage4.reads read told in (last.0, last.1, last.2.empty) })
