use Rattle.gft_base.specs.Words.{IsNumber}
use Rattle.gft_mark.proofs.FieldLemmas.{States-read}
use Rattle.gft_mark.proofs.field.stated_number.Goals as goal

pub returns-in_err-field_value : goal.returns-in_err-field_value
returns-in_err-field_value c = rw c.from_residual.ensures (λ n states. c.in_err-field_value.ensures states.value states.field)

pub returns : goal.returns
returns c = States-read c.args.name.now c.args.line.now c.in_ok-field_value.field-0.now IsNumber c.read_decimal.result c.in_ok-field_value.ensures c.read_decimal.ensures
