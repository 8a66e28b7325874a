use Rattle.std.proofs.Common.{rules}
use Rattle.std.proofs.lemmas.Fn.{All-from_retain, filter_same}
use Rattle.gft_outside.specs.OutLanes.{OutLaneList, out_lane_state}
use Rattle.gft_outside.specs.Links.{IsNewOutLane}
use Rattle.gft_outside.specs.MemoryLinks.{has_unused_out}
use Rattle.gft_outside.specs.declared.link.Dial.{Dial}
use Rattle.gft_outside.proofs.memory_link.unused_dials.Goals as goal

pub returns-clause-kept : goal.returns-clause-kept
returns-clause-kept c = filter_same _ has_unused_out _ (λ item b keep called. search rules) _ _ c.retain.ensures.filtered

pub returns-clause-new : goal.returns-clause-new
returns-clause-new c = All-from_retain _ (λ (dial : Dial OutLaneList). IsNewOutLane (out_lane_state dial.out)) _ (λ item b keep called. search rules) _ _ c.retain.ensures.filtered
