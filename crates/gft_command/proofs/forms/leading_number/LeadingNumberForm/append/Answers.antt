use Rattle.gft_command.proofs.PrintedLemmas.{leads}
use Rattle.gft_command.proofs.forms.leading_number.LeadingNumberForm.append.Goals as goal

pub returns-clause-read : goal.returns-clause-read
returns-clause-read c = leads _ _ c.in_ok-append.ensures.read
