use Rattle.std.proofs.Common.{arith}
use Rattle.gft_range.proofs.ListLemmas.{dashed_two, dashed_item}
use Rattle.gft_base.proofs.Lemmas.{IsNumber-one}
use Rattle.gft_range.proofs.list.read_item.Goals as goal

pub returns-in_err-end-in-Some : goal.returns-in_err-end-in-Some
returns-in_err-end-in-Some c = rw c.from_residual-in_err-end-in-Some.ensures (λ r item.
    let same = rw c.in-Some.is at c.split_first.ensures.parts in
    let two = dashed_two c.args.text.now _ c.in-Some.rest.now r same item in
    c.in_err-end-in-Some.ensures r.end two.1)

pub returns-then-first-end : goal.returns-then-first-end
returns-then-first-end c = λ r item.
    let same = rw c.in-Some.is at c.split_first.ensures.parts in
    let two = dashed_two c.args.text.now _ c.in-Some.rest.now r same item in
    omega (arith, two.2, IsNumber-one _ _ _ two.0 c.in_ok-first.ensures, IsNumber-one _ _ _ two.1 c.in_ok-end-in-Some.ensures)

pub returns-else-first-end : goal.returns-else-first-end
returns-else-first-end c =
    let same = rw c.in-Some.is at c.split_first.ensures.parts in
    dashed_item c.args.text.now _ c.in-Some.rest.now _ same c.in_ok-first.ensures c.in_ok-end-in-Some.ensures (omega arith)
