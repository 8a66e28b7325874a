use Rattle.std.proofs.Common.{◌≡◌, ℕ, List, ◌++◌, length}
use Rattle.gft_base.specs.Words.{AreSpaces}
use Rattle.gft_mark.proofs.field.without_spaces.Given as goal

abbrev pub invariant-loop-left : goal.invariant-loop-left
invariant-loop-left l = (spaces : List ℕ) × (l.text ≡ spaces ++ l.left) × AreSpaces spaces

abbrev pub decreases-loop-left : goal.decreases-loop-left
decreases-loop-left l = length l.left
