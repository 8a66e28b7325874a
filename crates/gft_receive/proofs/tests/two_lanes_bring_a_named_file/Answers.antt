use Rattle.std.proofs.Common.{arith}
use Rattle.gft_book.proofs.Lemmas.{HasAllPasses-begun}
use Rattle.gft_receive.proofs.BegunLemmas.{begun_fresh, begun_how, begun_many}
use Rattle.gft_receive.proofs.RowLemmas.{halves_many, halves_ready}
use Rattle.gft_receive.proofs.tests.two_lanes_bring_a_named_file.Goals as goal

pub receive-received-requires-clause-passes : goal.receive-received-requires-clause-passes
receive-received-requires-clause-passes g c κs =
    let b = c.in_ok-passes.ensures.begun in
    let many = begun_many _ _ _ _ _ b in
    let two = halves_many c.in_ok-lanes.lanes.items c.in_ok-lanes.ensures in
    (HasAllPasses-begun _ _ _ _ _ b, begun_fresh _ _ _ _ _ b, omega (arith, many, two, c.in_ok-passes.passes.ok.0, c.in_ok-lanes.lanes.ok.0))

pub receive-received-requires-clause-lanes : goal.receive-received-requires-clause-lanes
receive-received-requires-clause-lanes g c κs =
    (halves_ready _ (begun_how _ _ _ _ _ c.in_ok-passes.ensures.begun) c.in_ok-lanes.lanes.items c.in_ok-lanes.ensures, omega arith)
