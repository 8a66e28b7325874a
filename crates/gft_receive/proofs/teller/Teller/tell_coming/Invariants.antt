use Rattle.std.proofs.Common.{◌≡◌, None}
use Rattle.gft_receive.specs.Teller.{HasPut}
use Rattle.gft_receive.proofs.teller.Teller.tell_coming.Given as goal

abbrev pub invariant-marks : goal.invariant-marks
invariant-marks g l = record {
  can_next : (goal.iterator-marks g).can_next l.iterator';
  finite : (goal.iterator-marks g).is_finite l.iterator';
  pass : l.self.pass ≡ l.initial.self.pass;
  line : l.self.taker.line ≡ l.initial.self.taker.line;
  quiet : l.self.told.error ≡ None;
  puts : HasPut g.W.Sink.written g.W.Sink.is_open g.W.Sink.faults l.initial.out l.out l.self.taker.marks l.self.told;
}
