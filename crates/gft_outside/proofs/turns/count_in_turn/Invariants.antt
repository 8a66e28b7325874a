use Rattle.std.proofs.Common.{◌≡◌, ◌++◌, take, drop}
use Rattle.gft_outside.specs.LaneInputs.{no_channels}
use Rattle.gft_outside.specs.LaneScripts.{channels_of, front_in_turn}
use Rattle.gft_outside.proofs.turns.count_in_turn.Given as goal

abbrev pub invariant-loop-i : goal.invariant-loop-i
invariant-loop-i l = front_in_turn no_channels l.items ≡ take l.i l.items ++ front_in_turn (channels_of (take l.i l.items)) (drop l.i l.items)
