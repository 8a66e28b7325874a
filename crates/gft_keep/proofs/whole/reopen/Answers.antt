use Rattle.std.proofs.Common.{◌≡◌, ℕ, None, Result, Ok, Err, OnOk}
use Rattle.gft_drive.specs.declared.Part.TheVariants.{Ranges}
use Rattle.gft_drive.specs.Words.{OnPart}
use Rattle.gft_journal.specs.Words.{Bears, BearsOrNot, Becomes, BecomesOrNot}
use Rattle.gft_keep.specs.Changing.{Soundly}
use Rattle.gft_keep.specs.Steps.{Reopens}
use Rattle.gft_keep.proofs.Changing.{BornNaming, IsReopenedSoundly, Naming, is_born_only, is_resumed, reopens_refl, resumes, start_births, start_born_naming}
use Rattle.gft_keep.proofs.Stages.{IsStart, stage_none, stage_ranges, stage_since}
use Rattle.gft_keep.proofs.whole.reopen.Goals as goal

by_both : {T E A B C : Type 0} (result : Result T E) → OnOk result A → OnOk result B → (A → B → C) → OnOk result C
by_both (Ok done) a b both = both a b
by_both (Err failed) a b both = tt

pub returns-in_err-birth-clause-since : goal.returns-in_err-birth-clause-since
returns-in_err-birth-clause-since g c =
    let s = g.D.Drive.state in
    let laws = (g.met.D.Drive g.world.𝓛 g.world.𝓜 g.world.𝓡 ((λ s x. x), (λ x. x), (λ x. x), λ x. x)).lawful in
    let set = c.args.set.now.ranges in
    let stage0 = stage_none (Soundly Reopens) (Naming c.args.set.now.ranges) c.args.journal.now (s c.args.drive.now) c.requires.ready c.requires.names.ranges (λ read sound facts. record { done = reopens_refl read; sound = sound }) in
    let since1 = stage_since (Soundly Reopens) (IsStart (Naming c.args.set.now.ranges)) (OnPart Ranges BearsOrNot) c.args.journal.now (s c.args.drive.now) (s c.args.drive.now) (s c.birth.new.drive) (laws c.args.drive.now) (laws c.birth.new.drive) stage0 c.birth.ensures.any_moment c.birth.ensures.time (start_births (Naming c.args.set.now.ranges)) in
    since1

pub returns-then-not-marked-clause-since : goal.returns-then-not-marked-clause-since
returns-then-not-marked-clause-since g c =
    let s = g.D.Drive.state in
    let laws = (g.met.D.Drive g.world.𝓛 g.world.𝓜 g.world.𝓡 ((λ s x. x), (λ x. x), (λ x. x), λ x. x)).lawful in
    let set = c.args.set.now.ranges in
    let stage0 = stage_none (Soundly Reopens) (Naming c.args.set.now.ranges) c.args.journal.now (s c.args.drive.now) c.requires.ready c.requires.names.ranges (λ read sound facts. record { done = reopens_refl read; sound = sound }) in
    let since1 = stage_since (Soundly Reopens) (IsStart (Naming c.args.set.now.ranges)) (OnPart Ranges BearsOrNot) c.args.journal.now (s c.args.drive.now) (s c.args.drive.now) (s c.birth.new.drive) (laws c.args.drive.now) (laws c.birth.new.drive) stage0 c.birth.ensures.any_moment c.birth.ensures.time (start_births (Naming c.args.set.now.ranges)) in
    since1

pub returns-then-not-marked-clause-reopened : goal.returns-then-not-marked-clause-reopened
returns-then-not-marked-clause-reopened g c =
    let s = g.D.Drive.state in
    let laws = (g.met.D.Drive g.world.𝓛 g.world.𝓜 g.world.𝓡 ((λ s x. x), (λ x. x), (λ x. x), λ x. x)).lawful in
    let set = c.args.set.now.ranges in
    let stage0 = stage_none (Soundly Reopens) (Naming c.args.set.now.ranges) c.args.journal.now (s c.args.drive.now) c.requires.ready c.requires.names.ranges (λ read sound facts. record { done = reopens_refl read; sound = sound }) in
    let since1 = stage_since (Soundly Reopens) (IsStart (Naming c.args.set.now.ranges)) (OnPart Ranges BearsOrNot) c.args.journal.now (s c.args.drive.now) (s c.args.drive.now) (s c.birth.new.drive) (laws c.args.drive.now) (laws c.birth.new.drive) stage0 c.birth.ensures.any_moment c.birth.ensures.time (start_births (Naming c.args.set.now.ranges)) in
    let stage1 = stage_ranges (Soundly Reopens) (IsStart (Naming c.args.set.now.ranges)) (BornNaming set) BearsOrNot Bears c.args.journal.now c.birth.new.self (s c.args.drive.now) (s c.args.drive.now) (s c.birth.new.drive) (laws c.birth.new.drive) stage0 since1 c.in_ok-birth.ensures.stands c.birth.ensures.any_moment c.in_ok-birth.ensures.born c.birth.ensures.time (start_born_naming set) (λ read image naming. naming.born.sound) in
    record {
      ready = stage1.ready;
      read = λ read told. let last = stage1.reads read told in (last.0, last.1, is_born_only read last.0 (c.requires.marked c.if-not-marked.true read told) last.2.born);
    }

pub returns-clause-since : goal.returns-clause-since
returns-clause-since g c =
    let s = g.D.Drive.state in
    let laws = (g.met.D.Drive g.world.𝓛 g.world.𝓜 g.world.𝓡 ((λ s x. x), (λ x. x), (λ x. x), λ x. x)).lawful in
    let set = c.args.set.now.ranges in
    let stage0 = stage_none (Soundly Reopens) (Naming c.args.set.now.ranges) c.args.journal.now (s c.args.drive.now) c.requires.ready c.requires.names.ranges (λ read sound facts. record { done = reopens_refl read; sound = sound }) in
    let since1 = stage_since (Soundly Reopens) (IsStart (Naming c.args.set.now.ranges)) (OnPart Ranges BearsOrNot) c.args.journal.now (s c.args.drive.now) (s c.args.drive.now) (s c.birth.new.drive) (laws c.args.drive.now) (laws c.birth.new.drive) stage0 c.birth.ensures.any_moment c.birth.ensures.time (start_births (Naming c.args.set.now.ranges)) in
    let stage1 = stage_ranges (Soundly Reopens) (IsStart (Naming c.args.set.now.ranges)) (BornNaming set) BearsOrNot Bears c.args.journal.now c.birth.new.self (s c.args.drive.now) (s c.args.drive.now) (s c.birth.new.drive) (laws c.birth.new.drive) stage0 since1 c.in_ok-birth.ensures.stands c.birth.ensures.any_moment c.in_ok-birth.ensures.born c.birth.ensures.time (start_born_naming set) (λ read image naming. naming.born.sound) in
    let since2 = stage_since (Soundly Reopens) (BornNaming set) (OnPart Ranges (BecomesOrNot set None)) c.birth.new.self (s c.args.drive.now) (s c.birth.new.drive) (s c.rebase.new.drive) (laws c.birth.new.drive) (laws c.rebase.new.drive) stage1 c.rebase.ensures.any_moment c.rebase.ensures.time (resumes set) in
    since2

pub returns-clause-reopened : goal.returns-clause-reopened
returns-clause-reopened g c =
    let s = g.D.Drive.state in
    let laws = (g.met.D.Drive g.world.𝓛 g.world.𝓜 g.world.𝓡 ((λ s x. x), (λ x. x), (λ x. x), λ x. x)).lawful in
    let set = c.args.set.now.ranges in
    let stage0 = stage_none (Soundly Reopens) (Naming c.args.set.now.ranges) c.args.journal.now (s c.args.drive.now) c.requires.ready c.requires.names.ranges (λ read sound facts. record { done = reopens_refl read; sound = sound }) in
    let since1 = stage_since (Soundly Reopens) (IsStart (Naming c.args.set.now.ranges)) (OnPart Ranges BearsOrNot) c.args.journal.now (s c.args.drive.now) (s c.args.drive.now) (s c.birth.new.drive) (laws c.args.drive.now) (laws c.birth.new.drive) stage0 c.birth.ensures.any_moment c.birth.ensures.time (start_births (Naming c.args.set.now.ranges)) in
    let stage1 = stage_ranges (Soundly Reopens) (IsStart (Naming c.args.set.now.ranges)) (BornNaming set) BearsOrNot Bears c.args.journal.now c.birth.new.self (s c.args.drive.now) (s c.args.drive.now) (s c.birth.new.drive) (laws c.birth.new.drive) stage0 since1 c.in_ok-birth.ensures.stands c.birth.ensures.any_moment c.in_ok-birth.ensures.born c.birth.ensures.time (start_born_naming set) (λ read image naming. naming.born.sound) in
    let since2 = stage_since (Soundly Reopens) (BornNaming set) (OnPart Ranges (BecomesOrNot set None)) c.birth.new.self (s c.args.drive.now) (s c.birth.new.drive) (s c.rebase.new.drive) (laws c.birth.new.drive) (laws c.rebase.new.drive) stage1 c.rebase.ensures.any_moment c.rebase.ensures.time (resumes set) in
    by_both c.rebase.result c.rebase.ensures.stands c.rebase.ensures.based (λ stands based.
    let stage2 = stage_ranges (Soundly Reopens) (BornNaming set) IsReopenedSoundly (BecomesOrNot set None) (Becomes set None) c.birth.new.self c.rebase.new.self (s c.args.drive.now) (s c.birth.new.drive) (s c.rebase.new.drive) (laws c.rebase.new.drive) stage1 since2 stands c.rebase.ensures.any_moment based c.rebase.ensures.time (is_resumed set) (λ read image is. is.sound) in
    record { ready = stage2.ready; read = λ read told. let last = stage2.reads read told in (last.0, last.1, last.2.reopened) })
