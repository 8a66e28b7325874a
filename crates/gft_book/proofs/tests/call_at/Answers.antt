use Rattle.std.proofs.Common.{arith}
use Rattle.atomic_table.proofs.Lists.{at_index}
use Rattle.gft_book.proofs.PassesLemmas.{HasAllPasses-lane, HasAllPasses-set}
use Rattle.gft_book.proofs.tests.call_at.Goals as goal

pub make-requires-after_bounds : goal.make-requires-after_bounds
make-requires-after_bounds g c κs within =
    let passes = c.args.passes.now.items in
    let i = c.in-Some.ensures.item in
    let at = at_index passes c.args.place c.in-Some.pass.now i.3.0 i.1 in
    HasAllPasses-lane c.args.book.now.stage passes c.args.place c.in-Some.pass.now c.requires at
    (omega (arith, c.if-place-lanes.false, c.len-lanes.ensures, c.args.passes.now.ok.0))

pub returns : goal.returns
returns g c =
    let passes = c.args.passes.now.items in
    let i = c.in-Some.ensures.item in
    let at = at_index passes c.args.place c.in-Some.pass.now i.3.0 i.1 in
    HasAllPasses-set c.args.book.now.stage c.make.new.book.stage passes c.args.place c.in-Some.pass.now c.make.new.pass c.make.ensures.same c.make.ensures.pass at c.requires
