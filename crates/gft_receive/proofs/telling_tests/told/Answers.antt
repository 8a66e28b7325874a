use Rattle.std.proofs.Common.{arith}
use Rattle.gft_book.proofs.Lemmas.{HasAllPasses-begun}
use Rattle.gft_receive.proofs.BegunLemmas.{begun_fresh, begun_many}
use Rattle.gft_receive.proofs.telling_tests.told.Goals as goal

pub receive-received-requires-clause-passes : goal.receive-received-requires-clause-passes
receive-received-requires-clause-passes g c κs within =
    let b = c.in_ok-passes.ensures.begun in
    let many = begun_many _ _ _ _ _ b in
    (HasAllPasses-begun _ _ _ _ _ b, begun_fresh _ _ _ _ _ b, omega (arith, many, c.len-count.ensures, c.in_ok-passes.passes.ok.0))
