use Rattle.std.proofs.Common.{◌≡◌, ◌-◌, ◌≤◌, vec_len}
use Rattle.std.specs.Prelude.{vec_capacity}
use Rattle.gft_keep.specs.Words.{keep_of}
use Rattle.gft_book.specs.Begin.{Looks}
use Rattle.gft_book.specs.Readers.{AreTwins}
use Rattle.gft_book.proofs.readers.twins.Given as goal

abbrev pub invariant-twins : goal.invariant-twins
invariant-twins g l = record {
  looks : Looks (keep_of g.D.Drive.state l.initial.keep) (keep_of g.D.Drive.state l.keep);
  faults : (keep_of g.D.Drive.state l.keep).drive.faults ≡ (keep_of g.D.Drive.state l.initial.keep).drive.faults;
  twins : AreTwins g.D.Drive.state (keep_of g.D.Drive.state l.keep).drive (vec_len l.drives) l.drives.items;
  room : vec_len l.drives ≤ l.most;
  capacity : l.most ≤ vec_capacity l.drives;
}

abbrev pub decreases-twins : goal.decreases-twins
decreases-twins g l = l.most - vec_len l.drives
