use Rattle.std.proofs.Common.{◌≤◌, length}
use Rattle.std.specs.Option.{option_copied}
use Rattle.gft_base.specs.Words.{comma, parts_left}
use Rattle.gft_range.proofs.ListLemmas.{Adding}
use Rattle.gft_range.proofs.list.add_items.Given as goal

abbrev pub invariant-loop-rest : goal.invariant-loop-rest
invariant-loop-rest l =
    Adding l.text l.fn.set.ranges (option_copied l.rest) l.set.ranges × (length (parts_left comma (option_copied l.rest)) ≤ l.set.spare)

abbrev pub decreases-loop-rest : goal.decreases-loop-rest
decreases-loop-rest l = length (parts_left comma (option_copied l.rest))
