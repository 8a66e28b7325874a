use Rattle.std.proofs.Common.{◌≡◌, ◌++◌, ℕ}
use Rattle.std.specs.Prelude.{flat_map}
use Rattle.gft_generated.specs.Streams.{generated_blocks, segment_bytes}
use Rattle.gft_generated.proofs.stream.blocks.Given as goal

abbrev pub invariant-loop-range : goal.invariant-loop-range
invariant-loop-range l = record {
  can : goal.iterator-loop-range.can_next l.range-iterator;
  finite : goal.iterator-loop-range.is_finite l.range-iterator;
  blocks : (seed : ℕ) → flat_map (segment_bytes seed) l.segments.items ++ generated_blocks seed l.range-iterator ≡ generated_blocks seed l.fn.ranges;
}
