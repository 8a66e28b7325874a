use Rattle.std.proofs.Common.{length, arith, ap}
use Rattle.gft_range.proofs.ListLemmas.{adding_none, adding_more}
use Rattle.gft_range.proofs.list.add_items.Goals as goal

pub loop-rest-init : goal.loop-rest-init
loop-rest-init c = (adding_none c.args.text.now c.args.set.now.ranges c.requires.normal, c.requires.room)

pub loop-rest-preserved : goal.loop-rest-preserved
loop-rest-preserved c =
    let kept = rw c.in-Some.is at c.loop-rest.invariant in (
      adding_more _ _ c.loop-rest.set.ranges _ c.in-Some.left.now _ _ c.in-Some-read_item.range kept.0 c.split_first.ensures.parts c.in-Some-read_item.ensures c.add.ensures.normal c.add.ensures.union,
      omega (arith, kept.1, ap length c.split_first.ensures.parts, c.add.ensures.spare),
    )
