use Rattle.std.proofs.Common.{◌≡◌, ◌↔◌, ℕ, ◌+◌, ◌<◌, get_or}
use Rattle.std.specs.Prelude.{IsTrue}
use Rattle.gft_generated.specs.Generator.{mixed}
use Rattle.gft_generated.proofs.generator.is_generated.Given as goal

abbrev pub invariant-loop-byte : goal.invariant-loop-byte
invariant-loop-byte l =
    (l.count ≡ l.initial.count + l.byte-index)
    × (IsTrue l.is_same ↔ ((k : ℕ) → k < l.byte-index → get_or l.bytes k 0 ≡ mixed (l.initial.count + k)))
