use Rattle.std.proofs.Common.{◌≡◌, ◌<◌, length}
use Rattle.gft_drive.specs.Words.{sum_below}
use Rattle.gft_send.specs.Stripes.{bytes_in, channel_plan}
use Rattle.gft_send.proofs.LaneLemmas.{HasSent}
use Rattle.gft_send.proofs.lane.send_channels.Given as goal

abbrev pub invariant-loop-channel : goal.invariant-loop-channel
invariant-loop-channel g l = record {
  room : 17 < length l.buf;
  sent : HasSent (g.X.OutLane.state) l.plan l.done.ranges l.stripe (g.D.Drive.state l.initial.drive) (g.D.Drive.state l.drive) l.channel l.initial.channels l.channels;
  total : l.sent ≡ sum_below (λ channel. bytes_in (channel_plan l.plan l.done.ranges l.stripe channel)) l.channel;
}
