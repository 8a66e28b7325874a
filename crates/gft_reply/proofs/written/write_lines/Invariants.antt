use Rattle.std.proofs.Common.{◌≡◌, ◌++◌, length}
use Rattle.gft_reply.specs.declared.written.Place.TheVariants as place
use Rattle.gft_reply.specs.Written.{spelled, written_lines}
use Rattle.gft_reply.proofs.written.write_lines.Given as goal

abbrev pub invariant-loop-rest : goal.invariant-loop-rest
invariant-loop-rest l =
    l.text.items ++ spelled (written_lines l.at l.code l.rest) ≡ l.initial.text.items ++ spelled (written_lines place.First l.code l.lines)

abbrev pub decreases-loop-rest : goal.decreases-loop-rest
decreases-loop-rest l = length l.rest
