use Rattle.std.proofs.Common.{◌≡◌, ◌≤◌, ◌++◌, length, take}
use Rattle.gft_generated.proofs.stream.Stream.give.Given as goal

abbrev pub invariant-stretches : goal.invariant-stretches
invariant-stretches l = (l.given ≤ length l.buf) × (l.initial.self ≡ take l.given l.buf ++ l.self)
