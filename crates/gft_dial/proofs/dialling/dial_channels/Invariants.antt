use Rattle.std.proofs.Common.{◌≤◌, ◌-◌, ◌∷◌, [], length}
use Rattle.std.specs.Prelude.{All, vec_capacity, vec_len}
use Rattle.std.specs.List.{repeat}
use Rattle.gft_outside.specs.Words.{IsNewOutLane}
use Rattle.gft_dial.specs.Dials.{DialsTo}
use Rattle.gft_dial.proofs.dialling.dial_channels.Given as goal

abbrev pub invariant-each : goal.invariant-each
invariant-each g l = record {
  within : vec_len l.outs ≤ l.channels;
  room : l.channels ≤ vec_capacity l.outs;
  fresh : All (λ out. IsNewOutLane (g.K.Out.OutLane.state out)) l.outs.items;
  dialled : DialsTo (g.K.Link.state l.fn.link) (g.K.Link.state l.link) (repeat (length l.outs.items) (l.at ∷ [])) l.outs.items;
}

abbrev pub decreases-each : goal.decreases-each
decreases-each g l = l.channels - vec_len l.outs
