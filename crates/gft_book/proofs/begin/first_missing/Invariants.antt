use Rattle.std.proofs.Common.{ℕ, take}
use Rattle.gft_range.specs.Words.{HasOffset}
use Rattle.gft_book.proofs.begin.first_missing.Given as goal

abbrev pub invariant-loop-i : goal.invariant-loop-i
invariant-loop-i l = (x : ℕ) → HasOffset (take l.i l.list.ranges) x → HasOffset l.kept.ranges x
