use Rattle.std.proofs.Common.{◌≤◌, ◌-◌, length}
use Rattle.std.specs.Prelude.{All, vec_len}
use Rattle.gft_delivery.specs.Rows.{HasFile}
use Rattle.gft_delivery.proofs.tests.stripes.Given as goal

abbrev pub invariant-stripes : goal.invariant-stripes
invariant-stripes l =
    (vec_len l.stripes ≤ l.shape.stripes) × All (HasFile (length l.bytes) l.shape.parallel) l.stripes.items

abbrev pub decreases-stripes : goal.decreases-stripes
decreases-stripes l = l.shape.stripes - vec_len l.stripes
