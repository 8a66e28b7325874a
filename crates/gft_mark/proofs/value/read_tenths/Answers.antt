use Rattle.gft_mark.proofs.ValueLemmas.{timestamp-parts}
use Rattle.gft_mark.proofs.value.read_tenths.Goals as goal

pub returns-in_err-seconds : goal.returns-in_err-seconds
returns-in_err-seconds c = rw c.from_residual.ensures (λ n is.
    let all = timestamp-parts c.args.text.now c.split_first.result.0.now _ n c.split_first.ensures.parts is in
    c.in_err-seconds.ensures all.0 all.2)

pub returns-in_err-tenth : goal.returns-in_err-tenth
returns-in_err-tenth c = rw c.from_residual-in_err-tenth.ensures (λ n is.
    let all = timestamp-parts c.args.text.now c.split_first.result.0.now _ n c.split_first.ensures.parts is in
    c.in_err-tenth.ensures all.1 all.3)
