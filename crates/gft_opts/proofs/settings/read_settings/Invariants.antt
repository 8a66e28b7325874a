use Rattle.std.proofs.Common.{length}
use Rattle.gft_opts.proofs.RetrLemmas.{Reading}
use Rattle.gft_opts.proofs.settings.read_settings.Given as goal

abbrev pub invariant-loop-rest : goal.invariant-loop-rest
invariant-loop-rest l = Reading l.text l.rest l.said

abbrev pub decreases-loop-rest : goal.decreases-loop-rest
decreases-loop-rest l = length l.rest
