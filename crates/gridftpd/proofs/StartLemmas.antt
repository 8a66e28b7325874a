-- What a drive holds that is attached and emptied, or isn't.
use Rattle.std.proofs.Common.{◌≡◌, ◌≢◌, ℕ, ◌≤◌, ◌⊎◌, List, [], Option, Some, None, refl, sym, subst, arith, inl, inr, ◌∙◌}
use Rattle.gft_base.specs.Words.{Rose}
use Rattle.gft_drive.specs.Words.{DriveState, Image, LeavesBy}
use Rattle.gft_journal.specs.Words.{Rests}
use Rattle.gft_journal.specs.declared.AttachError.{AttachError}
use Rattle.gft_journal.specs.declared.AttachError.TheVariants as attach
use Rattle.gft_keep.specs.Words.{Attached, CountsFault, Emptied, Empties, IsOpen, IsSound, KeepState, MovesBy, NotAttached, Reopens}
use Rattle.gridftpd.specs.declared.outcome.Outcome.{Outcome}
use Rattle.gridftpd.specs.declared.outcome.Outcome.TheVariants as outcome
use Rattle.gridftpd.specs.Cause.{IsCause}
use Rattle.gridftpd.specs.Drain.{DriveIsBlamed, InputIsBlamed, IsTaken}
use Rattle.gridftpd.specs.Images.{FindsDamage, HoldsAtEnd, HoldsTaken, IsStored}
use Rattle.gridftpd.specs.Turn.{IsEndsOutcome, IsRunsOutcome, IsTurnsOutcome, outcome_of}
use Rattle.gridftpd.proofs.EndLemmas.{nothing_met, nothing_taken}
use Rattle.gft_keep.proofs.Lemmas.{exact_read}

reopens_same : (image : Image) → Reopens image image
reopens_same image = record {
  stays = record { ranges = λ x. (λ h. h, λ h. h); held = λ x v h. h };
  completes = record { complete = λ len is. (is, refl); unborn = λ none. (none, refl) };
}

le_same : (n : ℕ) → n ≤ n
le_same n = omega arith

-- a drive that was not called leaves what it left
pub leaves_itself : (drive : DriveState) → LeavesBy (λ from image. image ≡ from) drive drive
leaves_itself drive some image may = (image, may, refl)

-- an image that stays is one that was not emptied
rests_empties : (old new : DriveState) → Rests old new → LeavesBy Empties old new
rests_empties old new rests some image since =
    let came = rests.images some image since in
    (came.0, came.1, subst (λ i. Empties came.0 i) (sym came.2) (inl (reopens_same came.0)))

-- a drive that was attached and then emptied, or not
pub emptied_since : (first : DriveState) (k new : KeepState) → Attached first k → MovesBy Empties k new → LeavesBy Empties first new.drive
emptied_since first k new attached moves some image since =
    let rests = attached.rests in
    let some_then = rests.time.goes.tells.1 some in
    elim (moves.time.nothing_else first.moment image rests.time.later since) [
      | inl before ↦
          let came = rests.images some image before in
          (came.0, came.1, subst (λ i. Empties came.0 i) (sym came.2) (inl (reopens_same came.0)))
      | inr after ↦
          let mid = moves.any_moment some_then image after in
          let came = rests.images some mid.0 (attached.keep.lawful.since first.moment k.drive.moment mid.0 rests.time.later (le_same k.drive.moment) mid.1) in
          (came.0, came.1, subst (λ i. Empties i image) came.2 mid.2)
    ]

-- an emptied keep takes blocks
pub open_emptied : (k new : KeepState) → MovesBy Empties k new → Emptied k new → IsOpen new
open_emptied k new moves emptied = record {
  unbroken = record { whole = emptied.whole; facts = moves.keep };
  born = emptied.born;
  incomplete = emptied.incomplete;
}

-- what was attached had no damage
pub attached_sound : (first : DriveState) (k : KeepState) → Attached first k → (read : Image) → first.contents ≡ Some read → IsSound read
attached_sound first k attached read is =
    (exact_read k (record { whole = attached.whole; facts = attached.keep }) read (attached.read ∙ is)).sound

-- ---- a drive that is no keep

pub refused_cause : (error : AttachError) (left : Option (List ℕ)) → IsCause (outcome_of error) [] left
refused_cause attach.Failed left = nothing_met
refused_cause attach.OutOfMemory left = nothing_met
refused_cause (attach.Damaged damage) left = refl

pub refused_holds : (error : AttachError) (old new : DriveState) → Rests old new → HoldsAtEnd (outcome_of error) [] old new
refused_holds attach.Failed old new rests = inl (rests_empties old new rests)
refused_holds attach.OutOfMemory old new rests = inl rests.images
refused_holds (attach.Damaged damage) old new rests = rests.images

pub refused_damage : (error : AttachError) (old new : DriveState) → NotAttached old error new → FindsDamage (outcome_of error) old
refused_damage attach.Failed old new refused = tt
refused_damage attach.OutOfMemory old new refused = tt
refused_damage (attach.Damaged damage) old new refused =
    λ read is. (λ sound. refused.sound read is sound damage refl, (damage, refused.damage damage refl read is))

pub refused_blames : (error : AttachError) (before now : ℕ) → CountsFault error before now → DriveIsBlamed (outcome_of error) before now
refused_blames attach.Failed before now counts = counts
refused_blames attach.OutOfMemory before now counts = counts
refused_blames (attach.Damaged damage) before now counts = counts

pub refused_calm : (error : AttachError) (faults : ℕ) → InputIsBlamed (outcome_of error) faults faults
refused_calm attach.Failed faults = refl
refused_calm attach.OutOfMemory faults = refl
refused_calm (attach.Damaged damage) faults = refl

pub refused_not_complete : (error : AttachError) → outcome_of error ≢ outcome.Complete
refused_not_complete attach.Failed same = cc
refused_not_complete attach.OutOfMemory same = cc
refused_not_complete (attach.Damaged damage) same = cc

-- what `drain` says of it
pub refused_caused : (error : AttachError) (ending : Outcome) (left : Option (List ℕ)) (old new : DriveState) → ending ≡ outcome_of error → NotAttached old error new
    → (stream : List ℕ) × IsTaken left left stream × IsCause ending stream left × HoldsAtEnd ending stream old new × (ending ≡ outcome.Complete → IsStored stream new)
refused_caused error ending left old new is refused = (
  [],
  nothing_taken left,
  subst (λ (e : Outcome). IsCause e [] left) (sym is) (refused_cause error left),
  subst (λ (e : Outcome). HoldsAtEnd e [] old new) (sym is) (refused_holds error old new refused.rests),
  λ same. absurd (refused_not_complete error (sym is ∙ same)),
)

-- ---- an intake that was run

pub run_holds : (ending : Outcome) (stream : List ℕ) (old new : DriveState) → IsRunsOutcome ending → HoldsTaken ending stream new → HoldsAtEnd ending stream old new
run_holds outcome.Complete stream old new ran holds = holds
run_holds (outcome.Lost taken) stream old new ran holds = holds
run_holds (outcome.Hole total number missing) stream old new ran holds = holds
run_holds (outcome.BadBlock bad) stream old new ran holds = holds
run_holds (outcome.CountRefused error) stream old new ran holds = holds
run_holds outcome.TooLong stream old new ran holds = holds
run_holds (outcome.RangesFull kept) stream old new ran holds = holds
run_holds outcome.Damaged stream old new ran holds = absurd ran
run_holds outcome.ReadFailed stream old new ran holds = holds
run_holds outcome.DriveFailed stream old new ran holds = inr holds
run_holds outcome.OutOfMemory stream old new ran holds = inr holds

pub run_damage : (ending : Outcome) (old : DriveState) → IsRunsOutcome ending → ((read : Image) → old.contents ≡ Some read → IsSound read) → FindsDamage ending old
run_damage outcome.Complete old ran sound = sound
run_damage (outcome.Lost taken) old ran sound = sound
run_damage (outcome.Hole total number missing) old ran sound = sound
run_damage (outcome.BadBlock bad) old ran sound = sound
run_damage (outcome.CountRefused error) old ran sound = sound
run_damage outcome.TooLong old ran sound = sound
run_damage (outcome.RangesFull kept) old ran sound = sound
run_damage outcome.Damaged old ran sound = absurd ran
run_damage outcome.ReadFailed old ran sound = sound
run_damage outcome.DriveFailed old ran sound = tt
run_damage outcome.OutOfMemory old ran sound = tt

-- an outcome of one piece, or of the EOD, is one of an intake
pub turn_runs : (ending : Outcome) → IsTurnsOutcome ending → IsRunsOutcome ending
turn_runs outcome.Complete of_turn = tt
turn_runs (outcome.Lost taken) of_turn = tt
turn_runs (outcome.Hole total number missing) of_turn = tt
turn_runs (outcome.BadBlock bad) of_turn = tt
turn_runs (outcome.CountRefused error) of_turn = tt
turn_runs outcome.TooLong of_turn = tt
turn_runs (outcome.RangesFull kept) of_turn = tt
turn_runs outcome.Damaged of_turn = absurd of_turn
turn_runs outcome.ReadFailed of_turn = tt
turn_runs outcome.DriveFailed of_turn = tt
turn_runs outcome.OutOfMemory of_turn = tt

pub end_runs : (ending : Outcome) → IsEndsOutcome ending → IsRunsOutcome ending
end_runs outcome.Complete of_end = tt
end_runs (outcome.Lost taken) of_end = tt
end_runs (outcome.Hole total number missing) of_end = tt
end_runs (outcome.BadBlock bad) of_end = tt
end_runs (outcome.CountRefused error) of_end = tt
end_runs outcome.TooLong of_end = tt
end_runs (outcome.RangesFull kept) of_end = tt
end_runs outcome.Damaged of_end = absurd of_end
end_runs outcome.ReadFailed of_end = tt
end_runs outcome.DriveFailed of_end = tt
end_runs outcome.OutOfMemory of_end = tt

pub lost_runs : (ending : Outcome) (taken : ℕ) → (ending ≡ outcome.Hole None 0 None) ⊎ (ending ≡ outcome.Lost taken) → IsRunsOutcome ending
lost_runs ending taken (inl hole) = subst IsRunsOutcome (sym hole) tt
lost_runs ending taken (inr lost) = subst IsRunsOutcome (sym lost) tt
