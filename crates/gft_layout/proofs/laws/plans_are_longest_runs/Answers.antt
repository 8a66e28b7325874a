use Rattle.gft_layout.proofs.LawLemmas.{plan_longest}
use Rattle.gft_layout.proofs.laws.plans_are_longest_runs.Goals as goal

pub returns : goal.returns
returns c = plan_longest
