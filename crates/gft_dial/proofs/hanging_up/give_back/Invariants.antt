use Rattle.std.proofs.Common.{◌≡◌, ◌≤◌, ◌++◌, length}
use Rattle.std.specs.Vec.Iter.{into_iter_items, into_iter_len}
use Rattle.gft_dial.specs.Dials.{ReturnsOut}
use Rattle.gft_dial.proofs.hanging_up.give_back.Given as goal

abbrev pub invariant-each : goal.invariant-each
invariant-each g l = record {
  can_next : (goal.iterator-each g).can_next l.out-iterator;
  is_finite : (goal.iterator-each g).is_finite l.out-iterator;
  split : l.fn.outs.items ≡ l.yielded ++ into_iter_items l.out-iterator;
  len : into_iter_len l.out-iterator ≡ length (into_iter_items l.out-iterator);
  returned : ReturnsOut g.K.Out.OutLane.state (g.K.Link.state l.fn.link) (g.K.Link.state l.link) l.yielded;
  room : length (into_iter_items l.out-iterator) ≤ (g.K.Link.state l.link).handed_out;
}
