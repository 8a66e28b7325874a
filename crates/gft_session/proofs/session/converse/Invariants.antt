use Rattle.std.proofs.Common.{◌≡◌}
use Rattle.gft_session.specs.Brought.{output}
use Rattle.gft_session.specs.Conversation.{SoFar}
use Rattle.gft_session.specs.Listeners.{HasHandedOut, KeepsCount}
use Rattle.gft_session.specs.Settings.{around_of, state_of, world}
use Rattle.gft_session.specs.Fit.{IsFit}
use Rattle.gft_drive.specs.Words.{sent_by}
use Rattle.gft_session.proofs.session.converse.Given as goal

abbrev pub invariant-lines : goal.invariant-lines
invariant-lines g l = record {
  so_far : SoFar (around_of l.config g.K.In.Lane.state g.S.D.Drive.state (sent_by g.O.Origin.source g.O.Origin.orders g.O.Origin.fit)) l.config.idle
      (world l.fn.settings (g.K.Link.state l.fn.link)) (world l.settings (g.K.Link.state l.link))
      (g.C.Control.state l.fn.control) (g.C.Control.state l.control) l.lines (output (g.W.Sink.written l.fn.out) (g.G.Tally.told l.fn.tally)) (output (g.W.Sink.written l.out) (g.G.Tally.told l.tally));
  is_open : g.W.Sink.is_open l.out;
  ours : KeepsCount (world l.fn.settings (g.K.Link.state l.fn.link)) (world l.settings (g.K.Link.state l.link));
  room : HasHandedOut (world l.settings (g.K.Link.state l.link));
  clock : l.clock ≡ l.fn.clock;
  fit : IsFit g.K.In.Lane.state (state_of l.settings);
  heard : (g.C.Control.state l.control).faults ≡ (g.C.Control.state l.fn.control).faults;
  put : g.W.Sink.faults l.out ≡ g.W.Sink.faults l.fn.out;
}
