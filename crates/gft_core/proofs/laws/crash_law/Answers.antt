use Rattle.gft_core.proofs.CrashLemmas.{crash_kept, keeps, marks, restarts}
use Rattle.gft_core.proofs.HeldLemmas.{held_law}
use Rattle.gft_core.proofs.SenderLemmas.{done_kept}
use Rattle.gft_core.proofs.laws.crash_law.Goals as goal

pub returns-clause-held : goal.returns-clause-held
returns-clause-held c = held_law

pub returns-clause-image : goal.returns-clause-image
returns-clause-image c = crash_kept

pub returns-clause-keeps : goal.returns-clause-keeps
returns-clause-keeps c = keeps

pub returns-clause-marks : goal.returns-clause-marks
returns-clause-marks c = marks

pub returns-clause-restarts : goal.returns-clause-restarts
returns-clause-restarts c = restarts

pub returns-clause-done : goal.returns-clause-done
returns-clause-done c = done_kept
