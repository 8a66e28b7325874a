use Rattle.std.proofs.Common.{◌≡◌}
use Rattle.gft_herald.specs.Line.{taken_by}
use Rattle.gft_herald.proofs.ends.Taker.next.Given as goal

abbrev pub invariant-rings : goal.invariant-rings
invariant-rings g l = record {
  can_next : (goal.iterator-rings g).can_next l.iterator';
  finite : (goal.iterator-rings g).is_finite l.iterator';
  same : taken_by l.self-inside.consumer ≡ l.fn.self;
}
