use Rattle.std.proofs.Common.{◌≡◌, ◌≤◌, ◌-◌, ℕ}
use Rattle.std.specs.Prelude.{All, true, vec_len}
use Rattle.gft_delivery.proofs.tests.out_lanes.Given as goal

abbrev pub invariant-outs : goal.invariant-outs
invariant-outs l = (vec_len l.outs ≤ l.count) × All (λ out. out.is_open ≡ true) l.outs.items

abbrev pub decreases-outs : goal.decreases-outs
decreases-outs l = l.count - vec_len l.outs
