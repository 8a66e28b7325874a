use Rattle.std.proofs.Common.{◌≡◌, ◌≤◌, ◌+◌, ◌++◌, length, map, vec_len, vec_capacity}
use Rattle.std.specs.Prelude.{All}
use Rattle.std.specs.Vec.Iter.{into_iter_items, into_iter_len}
use Rattle.gft_dial.specs.Stripes.{IsUnopened}
use Rattle.gft_dial.proofs.dialling.unopened.Given as goal

abbrev pub invariant-each : goal.invariant-each
invariant-each g l = record {
  can_next : (goal.iterator-each g).can_next l.drive-iterator;
  is_finite : (goal.iterator-each g).is_finite l.drive-iterator;
  split : l.fn.drives.items ≡ l.yielded ++ into_iter_items l.drive-iterator;
  len : into_iter_len l.drive-iterator ≡ length (into_iter_items l.drive-iterator);
  drives : map (λ stripe. stripe.drive) l.stripes.items ≡ l.yielded;
  unopened : All (IsUnopened l.channels) l.stripes.items;
  room : vec_len l.stripes + length (into_iter_items l.drive-iterator) ≤ vec_capacity l.stripes;
}
