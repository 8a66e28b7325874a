use Rattle.std.proofs.Common.{◌≡◌}
use Rattle.std.specs.Prelude.{All}
use Rattle.gft_outside.specs.Words.{lane_state, no_channels}
use Rattle.gft_delivery.proofs.tests.lanes_of.Given as goal

abbrev pub invariant-lanes : goal.invariant-lanes
invariant-lanes l = All (λ lane. (lane_state lane).channels ≡ no_channels) l.lanes.items
