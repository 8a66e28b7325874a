use Rattle.gft_outside.proofs.HonestLaneLemmas.{honest_front, lanes_follow, truthful_brings}
use Rattle.gft_outside.proofs.laws.honest_lane_law.Goals as goal

pub returns-clause-front : goal.returns-clause-front
returns-clause-front c = honest_front

pub returns-clause-truthful : goal.returns-clause-truthful
returns-clause-truthful c = truthful_brings

pub returns-clause-lanes : goal.returns-clause-lanes
returns-clause-lanes c = lanes_follow
