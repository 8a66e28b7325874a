use Rattle.std.proofs.Common.{◌≡◌, ◌+◌, ◌≤◌, ◌++◌, map, vec_len}
use Rattle.std.specs.Prelude.{vec_capacity}
use Rattle.gft_receive.proofs.transfer.take_lanes.Given as goal

abbrev pub invariant-lanes : goal.invariant-lanes
invariant-lanes g l = record {
  lanes : l.initial.lanes.items ≡ map (λ w. w.lane) l.works.items ++ l.lanes.items;
  passes : l.initial.passes.items ≡ map (λ w. w.pass) l.works.items ++ l.passes.items;
  same : vec_len l.passes ≡ vec_len l.lanes;
  room : vec_len l.works + vec_len l.lanes ≤ vec_capacity l.works;
  lanes_capacity : vec_capacity l.lanes ≡ vec_capacity l.initial.lanes;
  passes_capacity : vec_capacity l.passes ≡ vec_capacity l.initial.passes;
}

abbrev pub decreases-lanes : goal.decreases-lanes
decreases-lanes g l = vec_len l.lanes
