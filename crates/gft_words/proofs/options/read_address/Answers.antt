use Rattle.std.proofs.Common.{[], ◌∷◌, ◌++◌, eqb, arith, append_assoc}
use Rattle.std.proofs.lemmas.List.{length-take-le, take_more_set}
use Rattle.std.proofs.lemmas.List.Splits.{length-slice_split}
use Rattle.gft_base.specs.Words.{dot}
use Rattle.gft_text.specs.Words.{IsByte}
use Rattle.gft_words.proofs.OptionLemmas.{parts_count}
use Rattle.gft_base.proofs.Lemmas.{AllZip-middle, AllZip-push}
use Rattle.gft_words.proofs.options.read_address.Goals as goal

pub returns-in_err-rest : goal.returns-in_err-rest
returns-in_err-rest c = rw c.from_residual.ensures (λ ns is.
    let kept = c.loop-number.invariant in
    let same = rw c.in_err-rest.was at kept.1 in
    omega (arith, is.four, parts_count _ _ [] _ ns same kept.2 is.numbers, length-take-le c.loop-number.number-index c.loop-number.number-items (omega arith)))

pub returns-in_err-number : goal.returns-in_err-number
returns-in_err-number c = rw c.from_residual-in_err-number.ensures (λ ns is.
    let kept = c.loop-number.invariant in
    let same = rw (c.in_ok-rest.was, c.split_first.ensures.parts) at kept.1 in
    let found = AllZip-middle IsByte _ _ _ ns (rw same at is.numbers) in
    c.in_err-number.ensures found.0 (record { number = found.1.number; low = omega arith; high = omega (arith, found.1.fits) }))

pub loop-number-preserved : goal.loop-number-preserved
loop-number-preserved c =
    let kept = c.loop-number.invariant in
    let same = rw (c.in_ok-rest.was, c.split_first.ensures.parts) at kept.1 in
    let is = c.in_ok-number.ensures in
    (kept.0 ++ c.split_first.result.0.now ∷ [], simp append_assoc same, rw (take_more_set c.loop-number.number-items c.loop-number.number-index c.in_ok-number.field-0 (omega arith)) (AllZip-push IsByte _ _ _ _ kept.2 (record { number = is.number; fits = omega (arith, is.high) })))

pub returns-in-Some : goal.returns-in-Some
returns-in-Some c = λ ns is.
    let kept = c.loop-number.invariant in
    let same = rw c.in-Some.is at kept.1 in
    omega (arith, is.four, parts_count _ _ _ _ ns same kept.2 is.numbers, length-take-le c.loop-number.number-index c.loop-number.number-items (omega arith), length-slice_split (λ b. eqb b dot) c.in-Some.field-0.now)
