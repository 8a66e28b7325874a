use Rattle.std.proofs.Common.{◌≡◌, ◌++◌, length}
use Rattle.gft_command.specs.Telnet.{undoubled}
use Rattle.gft_command.proofs.telnet.undouble.Given as goal

abbrev pub invariant-loop-left : goal.invariant-loop-left
invariant-loop-left l = l.text.items ++ undoubled l.left ≡ undoubled l.line

abbrev pub decreases-loop-left : goal.decreases-loop-left
decreases-loop-left l = length l.left
