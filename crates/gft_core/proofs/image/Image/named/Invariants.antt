use Rattle.std.proofs.Common.{◌↔◌, ℕ}
use Rattle.gft_range.specs.Words.{HasOffset}
use Rattle.gft_drive.specs.Words.{Names, selected, slot}
use Rattle.gft_core.proofs.image.Image.named.Given as goal

abbrev pub invariant-loop-i : goal.invariant-loop-i
invariant-loop-i l = (x : ℕ) → HasOffset l.set.ranges x ↔ Names (slot l.self.ranges (selected l.self.ranges)) l.i x
