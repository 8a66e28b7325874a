use Rattle.std.proofs.Common.{rules}
use Rattle.std.proofs.lemmas.Fn.{filter_same}
use Rattle.gft_outside.specs.LaneScripts.{lane_inputs}
use Rattle.gft_outside.specs.Lists.{tells}
use Rattle.gft_outside.proofs.lane_script.telling.Goals as goal

pub returns : goal.returns
returns c = filter_same _ (tells lane_inputs) _ (λ item b keep called. search rules) _ _ c.retain.ensures.filtered
