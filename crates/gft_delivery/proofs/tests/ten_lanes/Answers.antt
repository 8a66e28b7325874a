use Rattle.std.proofs.Common.{◌≡◌, ◌∷◌, [], List, refl, subst, sym}
use Rattle.gft_outside.specs.declared.memory_lane.MemoryLane.{MemoryLane}
use Rattle.gft_outside.specs.Words.{lane_state}
use Rattle.gft_delivery.specs.Rows.{AreTen}
use Rattle.gft_delivery.proofs.RowLemmas.{are_ten}
use Rattle.gft_delivery.proofs.tests.ten_lanes.Goals as goal

pub returns : goal.returns
returns c =
    subst (λ (lanes : List MemoryLane). AreTen lane_state lanes) (sym c.in_ok-vec.ensures.items)
    (are_ten c.in_ok-first.first c.in_ok-second.second c.in_ok-third.third c.in_ok-first.ensures c.in_ok-second.ensures c.in_ok-third.ensures)
