use Rattle.std.proofs.Common.{◌≡◌, ◌++◌, take}
use Rattle.gft_opts.proofs.TargetsLemmas.{spaced}
use Rattle.gft_opts.proofs.targets.write_targets.Given as goal

abbrev pub invariant-loop-at : goal.invariant-loop-at
invariant-loop-at l = l.text.items ≡ l.initial.text.items ++ spaced (take l.at-index l.others)
