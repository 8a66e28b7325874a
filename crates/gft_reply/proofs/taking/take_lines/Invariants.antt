use Rattle.std.proofs.Common.{◌≡◌, ℕ, List, ◌++◌, length}
use Rattle.gft_reply.specs.Taking.{Grows}
use Rattle.gft_reply.proofs.TakingLemmas.{Carried}
use Rattle.gft_reply.proofs.taking.take_lines.Given as goal

abbrev pub invariant-loop-rest : goal.invariant-loop-rest
invariant-loop-rest l =
    (done : List ℕ) × (l.bytes ≡ done ++ l.rest) × Carried l.initial.begun done l.begun × Grows l.initial.begun l.begun

abbrev pub decreases-loop-rest : goal.decreases-loop-rest
decreases-loop-rest l = length l.rest
