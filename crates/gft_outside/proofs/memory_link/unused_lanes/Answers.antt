use Rattle.std.proofs.Common.{rules}
use Rattle.std.proofs.lemmas.Fn.{All-from_retain, filter_same}
use Rattle.gft_outside.specs.LaneScripts.{LaneList, lane_state}
use Rattle.gft_outside.specs.Links.{IsNewLane}
use Rattle.gft_outside.specs.MemoryLinks.{has_unused_lane}
use Rattle.gft_outside.specs.declared.link.Listening.{Listening}
use Rattle.gft_outside.proofs.memory_link.unused_lanes.Goals as goal

pub returns-clause-kept : goal.returns-clause-kept
returns-clause-kept c = filter_same _ has_unused_lane _ (λ item b keep called. search rules) _ _ c.retain.ensures.filtered

pub returns-clause-new : goal.returns-clause-new
returns-clause-new c = All-from_retain _ (λ (listening : Listening LaneList). IsNewLane (lane_state listening.lane)) _ (λ item b keep called. search rules) _ _ c.retain.ensures.filtered
