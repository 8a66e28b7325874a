use Rattle.gft_mark.proofs.FieldLemmas.{IsField-none}
use Rattle.gft_mark.proofs.field.field_value.Goals as goal

pub returns-in_err-behind : goal.returns-in_err-behind
returns-in_err-behind c = rw c.from_residual.ensures (λ value.
    IsField-none c.args.name.now c.args.line.now c.without_spaces.result.now value c.without_spaces.ensures c.in_err-behind.ensures)
