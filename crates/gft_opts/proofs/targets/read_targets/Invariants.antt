use Rattle.std.proofs.Common.{◌≡◌, ℕ, List, ◌++◌, length}
use Rattle.std.specs.Option.{option_copied}
use Rattle.std.specs.List.{AllZip}
use Rattle.gft_base.specs.Words.{parts_at, parts_left}
use Rattle.gft_text.specs.Words.{IsHostPort}
use Rattle.gft_opts.proofs.targets.read_targets.Given as goal

abbrev pub invariant-loop-rest : goal.invariant-loop-rest
invariant-loop-rest l =
    (done : List (List ℕ)) × (parts_at 32 l.text ≡ done ++ parts_left 32 (option_copied l.rest)) × AllZip IsHostPort done l.targets

abbrev pub decreases-loop-rest : goal.decreases-loop-rest
decreases-loop-rest l = length (parts_left 32 (option_copied l.rest))
