use Rattle.std.proofs.Common.{arith}
use Rattle.gft_book.proofs.Lemmas.{HasAllPasses-begun}
use Rattle.gft_receive.proofs.Lemmas.{begun_fresh, begun_many}
use Rattle.gft_delivery.proofs.tests.transfer.Goals as goal

pub receive-outcome-requires-clause-passes : goal.receive-outcome-requires-clause-passes
receive-outcome-requires-clause-passes g c κs within =
    let b = c.in_ok-passes.ensures.begun in
    let many = begun_many _ _ _ _ _ b in
    (HasAllPasses-begun _ _ _ _ _ b, begun_fresh _ _ _ _ _ b, omega (arith, many, c.len-count.ensures, c.in_ok-passes.passes.ok.0))
