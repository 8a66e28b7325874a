use Rattle.std.proofs.Common.{◌≡◌, ◌+◌, List, take, refl, ap, ◌∙◌, arith}
use Rattle.gft_outside.specs.LaneScripts.{channels_of, opened_by}
use Rattle.gft_outside.specs.declared.lane_item.LaneItem.{LaneItem}
use Rattle.gft_outside.proofs.Places.{item_here}
use Rattle.gft_outside.proofs.TurnLemmas.{opened_behind, opened_few}
use Rattle.gft_outside.proofs.turns.count_opened.Goals as goal

pub loop-item-preserved : goal.loop-item-preserved
loop-item-preserved c =
    let items = c.args.items.now in
    let i = c.loop-item.item-index in
    let it = c.item-item.result in
    let here = item_here items items it i refl c.loop-item-test.true c.item-item.is in
    let more : (channels_of (take (i + 1) items)).opened ≡ (channels_of (take i items)).opened + opened_by it = ap (λ (l : List LaneItem). (channels_of l).opened) here.1 ∙ opened_behind (take i items) it in
    let was = c.loop-item.invariant.0 in
    let few = c.loop-item.invariant.1 in
    (omega (arith, more, was, c.opens-opened.ensures), omega (arith, few, c.opens-opened.ensures, opened_few it))
