use Rattle.std.proofs.Common.{[], ◌∷◌, ◌++◌, eqb, arith, append_assoc}
use Rattle.std.proofs.lemmas.List.{length-take-le, take_more_set}
use Rattle.std.proofs.lemmas.List.Splits.{length-slice_split}
use Rattle.gft_base.specs.Words.{comma}
use Rattle.gft_text.specs.HostPort.{IsByte}
use Rattle.gft_text.proofs.HostPortLemmas.{parts_count}
use Rattle.gft_base.proofs.Lemmas.{AllZip-middle, AllZip-push}
use Rattle.gft_text.proofs.host_port.read_six.Goals as goal

pub returns-in_err-rest : goal.returns-in_err-rest
returns-in_err-rest c = rw c.from_residual.ensures (λ ns six all.
    let kept = c.loop-number.invariant in
    let same = rw c.in_err-rest.was at kept.1 in
    omega (arith, parts_count _ _ [] _ ns same kept.2 all, length-take-le c.loop-number.number-index c.loop-number.number-items (omega arith)))

pub returns-in_err-number : goal.returns-in_err-number
returns-in_err-number c = rw c.from_residual-in_err-number.ensures (λ ns six all.
    let kept = c.loop-number.invariant in
    let same = rw (c.in_ok-rest.was, c.split_first.ensures.parts) at kept.1 in
    let found = AllZip-middle IsByte _ _ _ ns (rw same at all) in
    c.in_err-number.ensures found.0 found.1)

pub loop-number-preserved : goal.loop-number-preserved
loop-number-preserved c =
    let kept = c.loop-number.invariant in
    let same = rw (c.in_ok-rest.was, c.split_first.ensures.parts) at kept.1 in
    (kept.0 ++ c.split_first.result.0.now ∷ [], simp append_assoc same, rw (take_more_set c.loop-number.number-items c.loop-number.number-index c.in_ok-number.field-0 (omega arith)) (AllZip-push IsByte _ _ _ _ kept.2 c.in_ok-number.ensures))

pub returns-in-Some : goal.returns-in-Some
returns-in-Some c = λ ns six all.
    let kept = c.loop-number.invariant in
    let same = rw c.in-Some.is at kept.1 in
    omega (arith, parts_count _ _ _ _ ns same kept.2 all, length-take-le c.loop-number.number-index c.loop-number.number-items (omega arith), length-slice_split (λ b. eqb b comma) c.in-Some.field-0.now)
