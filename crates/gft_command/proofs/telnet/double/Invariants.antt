use Rattle.std.proofs.Common.{◌≡◌, ◌++◌, length}
use Rattle.gft_command.specs.Telnet.{doubled}
use Rattle.gft_command.proofs.telnet.double.Given as goal

abbrev pub invariant-loop-left : goal.invariant-loop-left
invariant-loop-left l = l.line.items ++ doubled l.left ≡ doubled l.fn.text.items

abbrev pub decreases-loop-left : goal.decreases-loop-left
decreases-loop-left l = length l.left
