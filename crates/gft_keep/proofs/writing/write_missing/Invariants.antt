use Rattle.std.proofs.Common.{◌≡◌, ◌+◌, ◌≤◌, List}
use Rattle.gft_range.specs.declared.Range.{Range}
use Rattle.gft_range.specs.Words.{IsMissing}
use Rattle.gft_drive.specs.Words.{Elapses, Leaves, Reads}
use Rattle.gft_drive.specs.declared.Part.TheVariants.{Bytes}
use Rattle.gft_keep.specs.Store.{offset_count}
use Rattle.gft_keep.specs.Writing.{AreLeft, KeepsBytes, Writing}
use Rattle.gft_keep.proofs.writing.write_missing.Given as goal

abbrev pub invariant-loop-gap : goal.invariant-loop-gap
invariant-loop-gap g l = record {
  can : (goal.iterator-loop-gap g).can_next l.gap-iterator;
  finite : (goal.iterator-loop-gap g).is_finite l.gap-iterator;
  left : AreLeft l.set.ranges l.block l.gap-iterator;
  writing : Reads Bytes (Writing l.set.ranges l.block l.bytes l.gap-iterator) (g.D.Drive.state l.initial.drive) (g.D.Drive.state l.drive);
  any_moment : Leaves Bytes (KeepsBytes l.set.ranges) (g.D.Drive.state l.initial.drive) (g.D.Drive.state l.drive);
  time : Elapses (g.D.Drive.state l.initial.drive) (g.D.Drive.state l.drive);
  faults : (g.D.Drive.state l.drive).faults ≡ (g.D.Drive.state l.initial.drive).faults;
  bounded : l.written + offset_count l.gap-iterator ≤ l.block.end;
  counted : (missing : List Range) → IsMissing l.set.ranges l.block missing → l.written + offset_count l.gap-iterator ≡ offset_count missing;
}
