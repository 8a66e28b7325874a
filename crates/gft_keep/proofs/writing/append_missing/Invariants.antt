use Rattle.std.proofs.Common.{◌≡◌, ◌≤◌, length}
use Rattle.gft_drive.specs.Words.{Elapses, Leaves, Reads}
use Rattle.gft_drive.specs.declared.Part.TheVariants.{Ranges}
use Rattle.gft_journal.specs.Words.{IsJournalOf, slots_left}
use Rattle.gft_keep.specs.Appending.{AddsAllBut, AddsFront}
use Rattle.gft_keep.specs.Writing.{AreLeft}
use Rattle.gft_keep.proofs.writing.append_missing.Given as goal

abbrev pub invariant-loop-gap : goal.invariant-loop-gap
invariant-loop-gap g l = record {
  can : (goal.iterator-loop-gap g).can_next l.gap-iterator;
  finite : (goal.iterator-loop-gap g).is_finite l.gap-iterator;
  left : AreLeft l.set.ranges l.fn.block l.gap-iterator;
  room : length l.gap-iterator ≤ slots_left l.journal;
  stands : IsJournalOf l.journal (g.D.Drive.state l.drive);
  reads : Reads Ranges (AddsAllBut l.set.ranges l.fn.block l.gap-iterator) (g.D.Drive.state l.initial.drive) (g.D.Drive.state l.drive);
  any_moment : Leaves Ranges (AddsFront l.set.ranges l.fn.block) (g.D.Drive.state l.initial.drive) (g.D.Drive.state l.drive);
  time : Elapses (g.D.Drive.state l.initial.drive) (g.D.Drive.state l.drive);
  faults : (g.D.Drive.state l.drive).faults ≡ (g.D.Drive.state l.initial.drive).faults;
}
