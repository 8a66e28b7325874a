use Rattle.std.proofs.Common.{◌≡◌, ◌-◌, None, IsSome, length}
use Rattle.gft_receive.specs.Teller.{TellsMore}
use Rattle.gft_receive.proofs.teller.Teller.tell_rest.Given as goal

abbrev pub invariant-marks : goal.invariant-marks
invariant-marks g l = record {
  pass : l.self.pass ≡ l.initial.self.pass;
  line : l.self.taker.line ≡ l.initial.self.taker.line;
  pusher_line : l.pusher.line ≡ l.initial.pusher.line;
  pusher_marks : l.pusher.marks ≡ l.initial.pusher.marks;
  puts : TellsMore g.W.Sink.written g.W.Sink.is_open g.W.Sink.faults l.initial.out l.out l.initial.self.taker.marks l.self.taker.marks l.initial.self.told l.self.told;
  sink : l.self.told.error ≡ None → g.W.Sink.is_open l.out;
  stays : IsSome l.initial.self.told.error → l.self.told ≡ l.initial.self.told;
}

abbrev pub decreases-marks : goal.decreases-marks
decreases-marks g l = length l.pusher.marks - length l.self.taker.marks
