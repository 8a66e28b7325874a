use Rattle.gft_mark.proofs.ValueLemmas.{fraction-read}
use Rattle.gft_mark.proofs.value.read_tenth.Goals as goal

pub returns-in-Some : goal.returns-in-Some
returns-in-Some c = rw c.in-Some.is (fraction-read c.in-Some.digits.now c.first_digit.result c.first_digit.ensures)
