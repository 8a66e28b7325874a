use Rattle.std.proofs.Common.{◌≡◌, ◌≤◌, ◌++◌, ◌+◌, length}
use Rattle.std.specs.Vec.Iter.{into_iter_items, into_iter_len}
use Rattle.gft_session.specs.Listeners.{Returns}
use Rattle.gft_session.proofs.ports.give_back.Given as goal

abbrev pub invariant-each : goal.invariant-each
invariant-each g l = record {
  can_next : (goal.iterator-each g).can_next l.lane-iterator;
  is_finite : (goal.iterator-each g).is_finite l.lane-iterator;
  split : l.fn.lanes.items ≡ l.yielded ++ into_iter_items l.lane-iterator;
  len : into_iter_len l.lane-iterator ≡ length (into_iter_items l.lane-iterator);
  returned : Returns g.K.In.Lane.state (g.K.Link.state l.fn.link) (g.K.Link.state l.link) l.yielded;
  count : (g.K.Link.state l.link).handed_out + length l.yielded ≡ (g.K.Link.state l.fn.link).handed_out;
  room : length (into_iter_items l.lane-iterator) ≤ (g.K.Link.state l.link).handed_out;
}
