use Rattle.std.proofs.Common.{◌≡◌, ◌+◌, List, length}
use Rattle.gft_range.specs.declared.Range.{Range}
use Rattle.gft_range.specs.Words.{IsMissing}
use Rattle.gft_keep.proofs.writing.has_room.Given as goal

abbrev pub invariant-loop-gap : goal.invariant-loop-gap
invariant-loop-gap l = record {
  can : goal.iterator-loop-gap.can_next l._gap-iterator;
  finite : goal.iterator-loop-gap.is_finite l._gap-iterator;
  counted : (missing : List Range) → IsMissing l.fn.set.ranges l.fn.block missing → length missing + l.left ≡ length l._gap-iterator + l.fn.slots;
}
