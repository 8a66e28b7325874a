use Rattle.std.proofs.Common.{arith, refl}
use Rattle.gft_book.proofs.Lemmas.{HasAllPasses-begun}
use Rattle.gft_receive.proofs.Lemmas.{begun_fresh, begun_how, begun_many}
use Rattle.gft_delivery.proofs.RowLemmas.{is_delivery, tells_begun, ten_many}
use Rattle.gft_delivery.proofs.tests.ten_bytes_of_a_named_file_are_delivered.Goals as goal

pub deliver-delivered-requires-clause-passes : goal.deliver-delivered-requires-clause-passes
deliver-delivered-requires-clause-passes g c κs =
    let b = c.in_ok-passes.ensures.begun in
    let many = begun_many _ _ _ _ _ b in
    let three = ten_many c.in_ok-lanes.lanes.items c.in_ok-lanes.ensures in
    (HasAllPasses-begun _ _ _ _ _ b, begun_fresh _ _ _ _ _ b, omega (arith, many, three, c.in_ok-passes.passes.ok.0, c.in_ok-lanes.lanes.ok.0))

pub deliver-delivered-requires-clause-delivery : goal.deliver-delivered-requires-clause-delivery
deliver-delivered-requires-clause-delivery g c κs =
    let b = c.in_ok-passes.ensures.begun in
    is_delivery _ (begun_how _ _ _ _ _ b) (tells_begun _ _ _ _ _ b refl) c.in_ok-lanes.lanes.items c.in_ok-lanes.ensures
