use Rattle.std.proofs.Common.{◌↔◌, length}
use Rattle.gft_base.specs.Words.{AreDigits}
use Rattle.gft_mark.proofs.value.are_digits.Given as goal

abbrev pub invariant-loop-left : goal.invariant-loop-left
invariant-loop-left l = AreDigits l.left ↔ AreDigits l.text

abbrev pub decreases-loop-left : goal.decreases-loop-left
decreases-loop-left l = length l.left
