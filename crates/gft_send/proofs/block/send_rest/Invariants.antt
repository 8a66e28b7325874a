use Rattle.std.proofs.Common.{◌≡◌, ℕ, ◌-◌, ◌≤◌, true}
use Rattle.std.specs.Prelude.{Ok, slice_range}
use Rattle.gft_range.specs.Words.{InRange}
use Rattle.gft_send.specs.Sending.{IsRestOf, Sends}
use Rattle.gft_send.proofs.block.send_rest.Given as goal

abbrev pub invariant-pieces : goal.invariant-pieces
invariant-pieces g l = record {
  low : l.range.start ≤ l.at;
  high : l.at ≤ l.range.end;
  is_open : (g.X.OutLane.state l.out).is_open ≡ true;
  sent : Sends {T = ℕ} (InRange l.range) (IsRestOf l.range) (λ file. slice_range file l.range.start l.at) (Ok 0) (g.D.Drive.state l.initial.drive) (g.D.Drive.state l.drive) (g.X.OutLane.state l.initial.out) (g.X.OutLane.state l.out);
}

abbrev pub decreases-pieces : goal.decreases-pieces
decreases-pieces g l = l.range.end - l.at
