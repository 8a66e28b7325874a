use Rattle.std.proofs.Common.{◌≡◌, ◌+◌, vec_capacity, vec_len}
use Rattle.gft_gen.proofs.marker.add_bytes.Given as goal

abbrev pub invariant-loop-byte : goal.invariant-loop-byte
invariant-loop-byte l =
    (vec_capacity l.line ≡ vec_capacity l.initial.line) × (vec_len l.line ≡ vec_len l.initial.line + l.byte-index)
