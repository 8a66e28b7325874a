use Rattle.std.proofs.Common.{◌≡◌, ◌≤◌, take}
use Rattle.gft_outside.specs.LaneScripts.{channels_of}
use Rattle.gft_outside.proofs.turns.count_opened.Given as goal

abbrev pub invariant-loop-item : goal.invariant-loop-item
invariant-loop-item l = (l.opened ≡ (channels_of (take l.item-index l.items)).opened) × (l.opened ≤ l.item-index)
