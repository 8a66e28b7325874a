use Rattle.gft_layout.proofs.LawLemmas.{NamesItsOffsets-plan, owner_within}
use Rattle.gft_layout.proofs.laws.plans_name_each_place_once.Goals as goal

pub returns-clause-plan : goal.returns-clause-plan
returns-clause-plan c = NamesItsOffsets-plan

pub returns-clause-owner : goal.returns-clause-owner
returns-clause-owner c = owner_within
