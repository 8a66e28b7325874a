use Rattle.std.proofs.Common.{arith}
use Rattle.gft_book.proofs.Lemmas.{HasAllPasses-begun}
use Rattle.gft_receive.proofs.Lemmas.{begun_fresh, begun_many}
use Rattle.gft_gen.proofs.transfer.run_transfer.Goals as goal

pub receive-outcome-requires-clause-passes : goal.receive-outcome-requires-clause-passes
receive-outcome-requires-clause-passes g c κs within =
    let b = c.in-Ok.ensures.begun in
    let many = begun_many _ _ _ _ _ b in
    (HasAllPasses-begun _ _ _ _ _ b, begun_fresh _ _ _ _ _ b, omega (arith, many, c.requires.stripes, c.in-Ok.passes.ok.0))
