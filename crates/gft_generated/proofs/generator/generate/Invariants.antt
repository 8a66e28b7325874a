use Rattle.std.proofs.Common.{◌≡◌, ℕ, ◌+◌, ◌<◌, get_or}
use Rattle.gft_generated.specs.Generator.{mixed}
use Rattle.gft_generated.proofs.generator.generate.Given as goal

abbrev pub invariant-loop-byte : goal.invariant-loop-byte
invariant-loop-byte l =
    (l.count ≡ l.initial.count + l.byte-index)
    × ((k : ℕ) → k < l.byte-index → get_or l.buf k 0 ≡ mixed (l.initial.count + k))
