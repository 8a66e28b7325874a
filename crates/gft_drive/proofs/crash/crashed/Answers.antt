use Rattle.std.proofs.Common.{◌≡◌, ℕ, List, ◌++◌, Vec, Global, take, reverse, refl, ap, sym, subst, ◌∙◌, arith}
use Rattle.std.proofs.lemmas.List.{take_all}
use Rattle.gft_drive.specs.Replay.{Tears}
use Rattle.gft_drive.specs.Drive.{Image, part_of}
use Rattle.gft_drive.specs.declared.disk.Step.{Step}
use Rattle.gft_drive.proofs.Crashing.{IsCrashed, one_step_more, crashed_synced, crashed_torn}
use Rattle.gft_drive.proofs.crash.crashed.Goals as goal
use Rattle.gft_drive.proofs.crash.crashed.Goals.{then-syncs+in_ok-extend_from_slice, else-syncs+in_ok-apply-2}

pub loop-step-preserved : goal.loop-step-preserved
loop-step-preserved c = λ image first.
    let older = reverse (take c.loop-step.step-index c.args.log.now) in
    let was = c.loop-step.invariant image first in
    let goes = c.in_ok-apply.ensures.newest refl in
    subst (λ (l : List Step). IsCrashed image l c.args.part c.args.choice c.apply.new.bytes.items c.if-syncs.left.items)
    (sym (one_step_more c.args.log.now c.loop-step.step-index c.step-item.result (omega (arith, c.loop-step-test.true)) c.step-item.is))
    (elim c.if-syncs.branch [
      | then-syncs+in_ok-extend_from_slice w ↦
          crashed_synced image older c.step-item.result c.args.part c.args.choice _ _ c.apply.new.bytes.items c.if-syncs.left.items was goes (sym c.syncs.ensures ∙ w.if-syncs.true)
          (ap (λ (v : Vec ℕ Global). v.items) w.left-is ∙ w.in_ok-extend_from_slice.ensures.items ∙ ap (λ (l : List ℕ). l ++ w.deref.result.now) w.clear.ensures.items ∙ w.deref.ensures.value)
      | else-syncs+in_ok-apply-2 w ↦
          crashed_torn image older c.step-item.result c.args.part c.args.choice _ _ c.apply.new.bytes.items c.if-syncs.left.items was goes (sym c.syncs.ensures ∙ w.if-syncs.false)
          (subst (λ (v : Vec ℕ Global). Tears c.step-item.result c.args.part c.loop-step.left.items v.items) (sym w.left-is) w.in_ok-apply-2.ensures.torn)
          (λ is. ap (λ (v : Vec ℕ Global). v.items) w.left-is ∙ w.in_ok-apply-2.ensures.newest is)
    ])

pub returns : goal.returns
returns c =
    let all = take_all c.loop-step.step-index c.args.log.now (omega (arith, c.loop-step-test.false)) in
    let done : (image : Image) → part_of c.args.part image ≡ c.args.first.now → IsCrashed image (reverse c.args.log.now) c.args.part c.args.choice c.loop-step.current.items c.loop-step.left.items =
    λ image first. subst (λ (l : List Step). IsCrashed image (reverse l) c.args.part c.args.choice c.loop-step.current.items c.loop-step.left.items) all (c.loop-step.invariant image first) in
    record { left = λ image first. (done image first).leaves; newest = λ is image first. (done image first).newest is }
