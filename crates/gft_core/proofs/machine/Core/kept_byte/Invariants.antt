use Rattle.std.proofs.Common.{◌≡◌, None, length}
use Rattle.gft_core.specs.Machine.{found_in, left_of}
use Rattle.gft_core.proofs.machine.Core.kept_byte.Given as goal

abbrev pub invariant-loop-entry : goal.invariant-loop-entry
invariant-loop-entry l = found_in (left_of None) l.self.entries l.offset ≡ found_in l.found l.later l.offset

abbrev pub decreases-loop-entry : goal.decreases-loop-entry
decreases-loop-entry l = length l.later
