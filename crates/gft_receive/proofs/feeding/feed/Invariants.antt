use Rattle.std.proofs.Common.{◌+◌, length}
use Rattle.gft_drive.specs.Words.{sent_by}
use Rattle.gft_receive.specs.Turns.{IsFeeding, undone}
use Rattle.gft_receive.proofs.feeding.feed.Given as goal

abbrev pub invariant-events : goal.invariant-events
invariant-events g l = IsFeeding (sent_by g.O.Origin.source g.O.Origin.orders g.O.Origin.fit) g.N.Run.start l.initial.reader l.bytes l.initial.pass l.reader l.left l.pass

abbrev pub decreases-events : goal.decreases-events
decreases-events g l = length l.left + undone l.reader.state
