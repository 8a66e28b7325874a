use Rattle.std.proofs.Common.{◌≡◌, ◌+◌, ◌<◌, ◌≤◌, ◌++◌, map, vec_len}
use Rattle.std.specs.Prelude.{vec_capacity}
use Rattle.gft_receive.proofs.transfer.give_back.Given as goal

abbrev pub invariant-works : goal.invariant-works
invariant-works g l = record {
  lanes : map (λ w. w.lane) l.initial.works.items ≡ l.lanes.items ++ map (λ w. w.lane) l.works.items;
  passes : map (λ w. w.pass) l.initial.works.items ≡ l.passes.items ++ map (λ w. w.pass) l.works.items;
  lanes_room : vec_len l.lanes + vec_len l.works ≤ vec_capacity l.lanes;
  passes_room : vec_len l.passes + vec_len l.works < vec_capacity l.passes;
}

abbrev pub decreases-works : goal.decreases-works
decreases-works g l = vec_len l.works
