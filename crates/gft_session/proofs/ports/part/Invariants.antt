use Rattle.std.proofs.Common.{◌≡◌, ◌≤◌, ◌++◌, ◌+◌, length, vec_len, vec_capacity}
use Rattle.std.specs.Vec.Iter.{into_iter_items, into_iter_len}
use Rattle.gft_session.specs.Listeners.{lanes_of, places_of}
use Rattle.gft_session.proofs.ports.part.Given as goal

abbrev pub invariant-each : goal.invariant-each
invariant-each g l = record {
  can_next : (goal.iterator-each g).can_next l.one-iterator;
  is_finite : (goal.iterator-each g).is_finite l.one-iterator;
  split : l.fn.listening.items ≡ l.yielded ++ into_iter_items l.one-iterator;
  len : into_iter_len l.one-iterator ≡ length (into_iter_items l.one-iterator);
  lanes : l.lanes.items ≡ lanes_of l.yielded;
  places : l.places.items ≡ places_of l.yielded;
  room : vec_len l.lanes + length (into_iter_items l.one-iterator) ≤ vec_capacity l.lanes;
  places_room : vec_len l.places + length (into_iter_items l.one-iterator) ≤ vec_capacity l.places;
}
