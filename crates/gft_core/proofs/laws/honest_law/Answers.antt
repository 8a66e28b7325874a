use Rattle.gft_core.proofs.HonestLemmas.{honest, front_kept}
use Rattle.gft_core.proofs.laws.honest_law.Goals as goal

pub returns-clause-whole : goal.returns-clause-whole
returns-clause-whole c = honest

pub returns-clause-front : goal.returns-clause-front
returns-clause-front c = front_kept
