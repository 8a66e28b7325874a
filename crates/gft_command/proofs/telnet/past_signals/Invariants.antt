use Rattle.std.proofs.Common.{◌≡◌, length}
use Rattle.gft_command.specs.Telnet.{past_signals}
use Rattle.gft_command.proofs.telnet.past_signals.Given as goal

abbrev pub invariant-loop-left : goal.invariant-loop-left
invariant-loop-left l = past_signals l.left ≡ past_signals l.line

abbrev pub decreases-loop-left : goal.decreases-loop-left
decreases-loop-left l = length l.left
