use Rattle.std.proofs.Common.{◌≡◌, ℕ, Some, vec_len}
use Rattle.std.specs.Prelude.{All, slice_get}
use Rattle.gft_outside.specs.Words.{no_channels}
use Rattle.gft_generated.specs.Carried.{CarriesFile}
use Rattle.gft_generated.specs.Lanes.{OnLane, generated_lane_state}
use Rattle.gft_generated.proofs.lanes.generated_lanes.Given as goal

abbrev pub invariant-loop-stripe : goal.invariant-loop-stripe
invariant-loop-stripe l =
    (vec_len l.lanes ≡ l.stripe) × All (λ lane. (generated_lane_state lane).channels ≡ no_channels) l.lanes.items
    × ((i : ℕ) (lane : OnLane) → slice_get l.lanes.items i ≡ Some lane → CarriesFile l.file l.done.ranges l.cut i lane)
