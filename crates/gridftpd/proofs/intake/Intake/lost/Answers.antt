use Rattle.std.proofs.Common.{arith}
use Rattle.gridftpd.proofs.EndLemmas.{held_yet, lost_from, empty_hole, met_none_yet}
use Rattle.gridftpd.proofs.intake.Intake.lost.Goals as goal

pub returns-then-taken-gt0-clause-caused : goal.returns-then-taken-gt0-clause-caused
returns-then-taken-gt0-clause-caused g c stream left follows ended =
    let state = g.D.Drive.state in (
      (
        (met_none_yet state stream c.args.self.now follows c.requires.awaits).0,
        lost_from state stream c.args.self.now left c.taken-taken.result follows c.requires.awaits ended c.taken-taken.ensures.taken c.if-taken-gt0.true,
      ),
      held_yet state stream c.args.self.now follows c.requires.awaits,
    )

pub returns-clause-caused : goal.returns-clause-caused
returns-clause-caused g c stream left follows ended =
    let state = g.D.Drive.state in (
      (
        (met_none_yet state stream c.args.self.now follows c.requires.awaits).0,
        empty_hole state stream c.args.self.now left follows ended (omega (arith, c.taken-taken.ensures.taken, c.if-taken-gt0.false)),
      ),
      held_yet state stream c.args.self.now follows c.requires.awaits,
    )
