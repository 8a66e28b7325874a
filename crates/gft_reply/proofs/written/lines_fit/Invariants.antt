use Rattle.std.proofs.Common.{length}
use Rattle.std.specs.List.{AllByRecursion}
use Rattle.gft_reply.specs.declared.written.Place.TheVariants as place
use Rattle.gft_reply.specs.Written.{IsReplyLine, written_lines}
use Rattle.gft_reply.proofs.written.lines_fit.Given as goal

abbrev pub invariant-loop-rest : goal.invariant-loop-rest
invariant-loop-rest l = record {
  all : AllByRecursion IsReplyLine (written_lines place.First l.code l.lines) → AllByRecursion IsReplyLine (written_lines l.at l.code l.rest);
  back : AllByRecursion IsReplyLine (written_lines l.at l.code l.rest) → AllByRecursion IsReplyLine (written_lines place.First l.code l.lines);
}

abbrev pub decreases-loop-rest : goal.decreases-loop-rest
decreases-loop-rest l = length l.rest
