use Rattle.gft_command.proofs.forms.leading_number.LeadingNumberForm.read.Goals as goal

pub returns : goal.returns
returns c = rw c.split_word.ensures.word at c.read.ensures
