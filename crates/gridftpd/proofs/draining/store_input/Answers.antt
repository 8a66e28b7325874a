use Rattle.std.proofs.Common.{◌≡◌, [], sym, ap, subst, inl, refl}
use Rattle.gft_drive.specs.Words.{DriveState, Goes, LeavesBy}
use Rattle.gft_drive.proofs.Lemmas.{Goes-then}
use Rattle.gft_keep.specs.declared.Keep.{Keep}
use Rattle.gft_keep.specs.Words.{Empties, keep_of}
use Rattle.gridftpd.specs.Drain.{DriveIsBlamed, InputIsBlamed}
use Rattle.gridftpd.specs.Images.{FindsDamage, HoldsTaken, IsStored}
use Rattle.gridftpd.specs.declared.outcome.Outcome.{Outcome}
use Rattle.gridftpd.proofs.EndLemmas.{nothing_met, nothing_taken}
use Rattle.gridftpd.proofs.StartLemmas.{attached_sound, emptied_since, leaves_itself, open_emptied, refused_blames, refused_calm, refused_caused, refused_damage, run_damage, run_holds}
use Rattle.gridftpd.proofs.draining.store_input.Goals as goal

pub returns-in_default-clause-caused : goal.returns-in_default-clause-caused
returns-in_default-clause-caused g c = ([], nothing_taken _, nothing_met, inl (leaves_itself (g.D.Drive.state c.args.drive)), λ same. cc)

pub returns-in-Err-clause-caused : goal.returns-in-Err-clause-caused
returns-in-Err-clause-caused g c =
    let state = g.D.Drive.state in
    refused_caused c.in-Err.error c.not_attached.result _ (state c.args.drive) (state c.in-Err.drive) c.not_attached.ensures c.in-Err.ensures.failed

pub returns-in-Err-clause-damage : goal.returns-in-Err-clause-damage
returns-in-Err-clause-damage g c =
    let state = g.D.Drive.state in
    subst (λ (e : Outcome). FindsDamage e (state c.args.drive)) (sym c.not_attached.ensures) (refused_damage c.in-Err.error (state c.args.drive) (state c.in-Err.drive) c.in-Err.ensures.failed)

pub returns-in-Err-clause-input : goal.returns-in-Err-clause-input
returns-in-Err-clause-input g c =
    let faults = g.I.Source.faults c.args.input.now in
    subst (λ (e : Outcome). InputIsBlamed e faults faults) (sym c.not_attached.ensures) (refused_calm c.in-Err.error faults)

pub returns-in-Err-clause-drive : goal.returns-in-Err-clause-drive
returns-in-Err-clause-drive g c =
    let state = g.D.Drive.state in
    subst (λ (e : Outcome). DriveIsBlamed e (state c.args.drive).faults (state c.in-Err.drive).faults) (sym c.not_attached.ensures)
    (refused_blames c.in-Err.error (state c.args.drive).faults (state c.in-Err.drive).faults c.in-Err.ensures.failed.cause)

pub returns-in-Err-clause-goes : goal.returns-in-Err-clause-goes
returns-in-Err-clause-goes g c = c.in-Err.ensures.failed.rests.time.goes

pub returns-in-Err-fresh-clause-caused : goal.returns-in-Err-fresh-clause-caused
returns-in-Err-fresh-clause-caused g c =
    let state = g.D.Drive.state in
    let first = state c.args.drive in
    let new = keep_of state c.fresh.new.self in
    let older = emptied_since first (keep_of state c.in-Ok-attach.keep) new c.in-Ok-attach.ensures.ok c.fresh.ensures.any_moment in
    ([], nothing_taken _, nothing_met, inl (subst (λ (d : DriveState). LeavesBy Empties first d) (ap state (sym c.into_drive.ensures)) older), λ same. cc)

pub returns-in-Err-fresh-clause-goes : goal.returns-in-Err-fresh-clause-goes
returns-in-Err-fresh-clause-goes g c =
    let state = g.D.Drive.state in
    let first = state c.args.drive in
    let attached = (keep_of state c.in-Ok-attach.keep).drive in
    let emptied = (keep_of state c.fresh.new.self).drive in
    subst (λ (d : DriveState). Goes first d) (ap state (sym c.into_drive.ensures)) (Goes-then first attached emptied c.in-Ok-attach.ensures.ok.rests.time.goes c.fresh.ensures.any_moment.time.goes)

pub new-intake-requires-clause-is_open : goal.new-intake-requires-clause-is_open
new-intake-requires-clause-is_open g c = λ κs below. open_emptied _ _ c.fresh.ensures.any_moment c.in_default-fresh.ensures.emptied

pub returns-clause-caused : goal.returns-clause-caused
returns-clause-caused g c =
    let state = g.D.Drive.state in
    let run = c.run-outcome.ensures.caused in
    let last = (keep_of state c.run-outcome.new.self.keep).drive in
    let back : last ≡ state c.into_drive-2.result = ap state (sym c.into_drive-2.ensures) in
    let ending = c.run-outcome.result in (
      run.0,
      run.1,
      run.2,
      run_holds ending run.0 (state c.args.drive) (state c.into_drive-2.result) run.3 (subst (λ (d : DriveState). HoldsTaken ending run.0 d) back run.4),
      λ same. subst (λ (d : DriveState). IsStored run.0 d) back (run.5 same),
    )

pub returns-clause-damage : goal.returns-clause-damage
returns-clause-damage g c =
    let state = g.D.Drive.state in
    run_damage c.run-outcome.result (state c.args.drive) c.run-outcome.ensures.caused.3 (attached_sound (state c.args.drive) (keep_of state c.in-Ok-attach.keep) c.in-Ok-attach.ensures.ok)

pub returns-clause-goes : goal.returns-clause-goes
returns-clause-goes g c =
    let state = g.D.Drive.state in
    let first = state c.args.drive in
    let attached = (keep_of state c.in-Ok-attach.keep).drive in
    let emptied = (keep_of state c.fresh.new.self).drive in
    let last = (keep_of state c.run-outcome.new.self.keep).drive in
    let begun : (keep_of state c.new-intake.result.keep).drive ≡ emptied = ap (λ (keep : Keep g.row.D.Denot). (keep_of state keep).drive) c.new-intake.ensures.keep in
    let ran = subst (λ (old : DriveState). Goes old last) begun c.run-outcome.ensures.goes in
    subst (λ (d : DriveState). Goes first d) (ap state (sym c.into_drive-2.ensures))
    (Goes-then first emptied last (Goes-then first attached emptied c.in-Ok-attach.ensures.ok.rests.time.goes c.fresh.ensures.any_moment.time.goes) ran)
