use Rattle.std.proofs.Common.{◌≡◌, take}
use Rattle.gft_outside.specs.LaneInputs.{is_live}
use Rattle.gft_outside.specs.LaneScripts.{channels_of}
use Rattle.gft_outside.proofs.turns.is_live_behind.Given as goal

abbrev pub invariant-loop-item : goal.invariant-loop-item
invariant-loop-item l = l.was_live ≡ is_live l.channel (channels_of (take l.item-index l.items)).live
