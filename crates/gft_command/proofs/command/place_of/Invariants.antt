use Rattle.std.proofs.Common.{◌≡◌, ℕ, List, ◌<◌, get_or}
use Rattle.std.specs.Borrow.{Bor}
use Rattle.gft_text.specs.Words.{folded}
use Rattle.gft_command.proofs.command.place_of.Given as goal

abbrev pub invariant-loop-place : goal.invariant-loop-place
invariant-loop-place l = (k : ℕ) (d : Bor (List ℕ)) → k < l.place → folded (get_or l.words k d).now ≡ folded l.verb → ⊥
