use Rattle.std.proofs.Common.{length, map}
use Rattle.gft_words.specs.Arguments.{Gives, given_by, texts}
use Rattle.gft_words.proofs.arguments.read_arguments.Given as goal

abbrev pub invariant-loop-rest : goal.invariant-loop-rest
invariant-loop-rest l = Gives (texts l.words) (map given_by l.arguments.items) (texts l.rest)

abbrev pub decreases-loop-rest : goal.decreases-loop-rest
decreases-loop-rest l = length l.rest
