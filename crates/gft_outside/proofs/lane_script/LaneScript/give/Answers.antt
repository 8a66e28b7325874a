use Rattle.std.proofs.Common.{◌≡◌, ◌+◌, length, arith}
use Rattle.gft_outside.specs.LaneScripts.{lane_inputs}
use Rattle.gft_outside.proofs.Places.{item_here, moved, place_more, place_next, stands_first}
use Rattle.gft_outside.proofs.lane_script.LaneScript.give.Goals as goal

pub returns-then-count-left-clause-moves : goal.returns-then-count-left-clause-moves
returns-then-count-left-clause-moves c =
    let items = c.self.inside.items.items in
    let at = c.self.inside.at in
    let used = c.self.inside.used in
    let count = c.give-event.result.1 in
    let found = item_here items c.deref.result.now c.in-Some.item.now at c.deref.ensures.value c.in-Some.ensures.lookup.3.0 c.in-Some.ensures.lookup.1 in
    moved lane_inputs items _ c.in-Some.item.now at used count _ _ _ c.self.view_is found.0 c.give-event.ensures.some c.give-event.ensures.within c.give-event.ensures.given (place_more lane_inputs items at used count)

pub invariant_of-self-2 : goal.invariant_of-self-2
invariant_of-self-2 c = (c.self.invariant.0, stands_first lane_inputs c.self.inside.items.items (c.self.inside.at + 1) c.self.invariant.0)

pub returns-clause-moves : goal.returns-clause-moves
returns-clause-moves c =
    let items = c.self.inside.items.items in
    let at = c.self.inside.at in
    let used = c.self.inside.used in
    let count = c.give-event.result.1 in
    let found = item_here items c.deref.result.now c.in-Some.item.now at c.deref.ensures.value c.in-Some.ensures.lookup.3.0 c.in-Some.ensures.lookup.1 in
    let whole : used + count ≡ length (lane_inputs c.in-Some.item.now) = omega (arith, c.len.ensures, c.if-count-left.false, c.give-event.ensures.within) in
    moved lane_inputs items _ c.in-Some.item.now at used count _ _ _ c.self.view_is found.0 c.give-event.ensures.some c.give-event.ensures.within c.give-event.ensures.given (place_next lane_inputs items c.in-Some.item.now at used count found.1 whole)
