use Rattle.std.proofs.Common.{◌≡◌, ◌++◌, length}
use Rattle.std.specs.List.{flat_map}
use Rattle.gft_layout.specs.Blocks.{left_in}
use Rattle.gft_layout.proofs.planned.PlanIterator.next.Given as goal

abbrev pub invariant-loop-block : goal.invariant-loop-block
invariant-loop-block l = l.self-inside.missing ++ flat_map (left_in l.self-inside.done.now.ranges) l.self-inside.blocks ≡ l.fn.self

abbrev pub decreases-loop-block : goal.decreases-loop-block
decreases-loop-block l = length l.self-inside.blocks
