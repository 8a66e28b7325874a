use Rattle.std.proofs.Common.{◌≡◌, length}
use Rattle.gft_drive.specs.Words.{sent_by}
use Rattle.gft_receive.specs.Turns.{HasMoved}
use Rattle.gft_receive.proofs.mover.receive_lane.Given as goal

abbrev pub invariant-turns : goal.invariant-turns
invariant-turns g l = record {
  can_next : (goal.iterator-turns g).can_next l.iterator';
  finite : (goal.iterator-turns g).is_finite l.iterator';
  moved : HasMoved (sent_by g.O.Origin.source g.O.Origin.orders g.O.Origin.fit) g.N.Run.start (record { lane = l.fn.pass.lane; shift = l.limits.shift; idle = l.limits.idle }) (g.L.Lane.state l.fn.lane) (g.L.Lane.state l.lane) l.fn.pass l.mover l.pass;
  buffer : length l.buf ≡ 65536;
}
