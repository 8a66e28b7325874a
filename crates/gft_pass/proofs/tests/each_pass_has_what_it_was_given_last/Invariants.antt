use Rattle.std.proofs.Common.{length}
use Rattle.gft_pass.specs.Ledger.{AllPasses}
use Rattle.gft_pass.proofs.tests.each_pass_has_what_it_was_given_last.Given as goal

abbrev pub invariant-loop-place : goal.invariant-loop-place
invariant-loop-place g l = AllPasses l.roster.table (length l.roster.counts) l.passes.items
