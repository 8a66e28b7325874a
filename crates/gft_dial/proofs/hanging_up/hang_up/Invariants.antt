use Rattle.std.proofs.Common.{◌≡◌, ◌≤◌, ◌++◌, length}
use Rattle.std.specs.Vec.Iter.{into_iter_items, into_iter_len}
use Rattle.gft_dial.specs.Dials.{ReturnsOut, outs_of}
use Rattle.gft_dial.proofs.hanging_up.hang_up.Given as goal

abbrev pub invariant-each : goal.invariant-each
invariant-each g l = record {
  can_next : (goal.iterator-each g).can_next l.stripe-iterator;
  is_finite : (goal.iterator-each g).is_finite l.stripe-iterator;
  split : l.fn.stripes.items ≡ l.yielded ++ into_iter_items l.stripe-iterator;
  len : into_iter_len l.stripe-iterator ≡ length (into_iter_items l.stripe-iterator);
  returned : ReturnsOut g.K.Out.OutLane.state (g.K.Link.state l.fn.link) (g.K.Link.state l.link) (outs_of l.yielded);
  room : length (outs_of (into_iter_items l.stripe-iterator)) ≤ (g.K.Link.state l.link).handed_out;
}
