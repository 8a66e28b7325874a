use Rattle.std.proofs.Common.{◌≡◌}
use Rattle.std.specs.Prelude.{All}
use Rattle.gft_outside.specs.Words.{lane_state, no_channels}
use Rattle.gft_receive.proofs.tests.wide_lanes.Given as goal

abbrev pub invariant-loop-lane : goal.invariant-loop-lane
invariant-loop-lane l = All (λ lane. (lane_state lane).channels ≡ no_channels) l.lanes.items
