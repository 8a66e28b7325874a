use Rattle.gft_reply.proofs.GrammarLemmas.{heard-reply}
use Rattle.gft_reply.proofs.HeardLemmas.{heard-only}
use Rattle.gft_reply.proofs.laws.replies_are_of_lines.Goals as goal

pub returns-clause-heard : goal.returns-clause-heard
returns-clause-heard c = heard-reply

pub returns-clause-only : goal.returns-clause-only
returns-clause-only c = heard-only
