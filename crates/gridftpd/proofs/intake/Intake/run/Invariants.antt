use Rattle.std.proofs.Common.{◌≡◌, ℕ, ◌-◌, List}
use Rattle.std.specs.Io.KnownBytes.{Consumes}
use Rattle.gft_drive.specs.Words.{Goes}
use Rattle.gft_keep.specs.Words.{keep_of}
use Rattle.gft_eblock.specs.declared.TheConstants.{MAX_BYTES}
use Rattle.gft_eblock.specs.Words.{IsDone}
use Rattle.gridftpd.specs.Follows.{Follows}
use Rattle.gridftpd.proofs.intake.Intake.run.Given as goal

abbrev pub invariant-reads : goal.invariant-reads
invariant-reads g l = record {
  stream : List ℕ;
  consumed : Consumes (g.I.Source.left l.initial.input) (g.I.Source.left l.input) stream;
  follows : Follows g.D.Drive.state 0 stream l.self;
  goes : Goes (keep_of g.D.Drive.state l.initial.self.keep).drive (keep_of g.D.Drive.state l.self.keep).drive;
  not_done : ¬ IsDone l.self.channel;
  read_faults : g.I.Source.faults l.input ≡ g.I.Source.faults l.initial.input;
  drive_faults : (keep_of g.D.Drive.state l.self.keep).drive.faults ≡ (keep_of g.D.Drive.state l.initial.self.keep).drive.faults;
}

abbrev pub decreases-reads : goal.decreases-reads
decreases-reads g l = MAX_BYTES - l.self.channel.taken
