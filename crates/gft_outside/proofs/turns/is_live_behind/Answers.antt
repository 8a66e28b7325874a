use Rattle.std.proofs.Common.{List, take, refl, sym, ap, ◌∙◌}
use Rattle.gft_outside.specs.LaneInputs.{is_live}
use Rattle.gft_outside.specs.LaneScripts.{channels_of, live_by}
use Rattle.gft_outside.specs.declared.lane_item.LaneItem.{LaneItem}
use Rattle.gft_outside.proofs.Places.{item_here}
use Rattle.gft_outside.proofs.TurnLemmas.{live_behind}
use Rattle.gft_outside.proofs.turns.is_live_behind.Goals as goal

pub loop-item-preserved : goal.loop-item-preserved
loop-item-preserved c =
    let items = c.args.items.now in
    let i = c.loop-item.item-index in
    let it = c.item-item.result in
    let channel = c.args.channel in
    let here = item_here items items it i refl c.loop-item-test.true c.item-item.is in
    c.leaves_live-was_live.ensures ∙ ap (live_by channel it) c.loop-item.invariant
    ∙ sym (ap (λ (l : List LaneItem). is_live channel (channels_of l).live) here.1 ∙ live_behind (take i items) it channel)
