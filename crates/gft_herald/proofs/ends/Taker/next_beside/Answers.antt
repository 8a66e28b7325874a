use Rattle.rtrb.specs.Ring.{known_items}
use Rattle.gft_herald.specs.Line.{ranges_of}
use Rattle.gft_herald.proofs.FrontLemmas.{front_next}
use Rattle.gft_herald.proofs.ends.Taker.next_beside.Goals as goal

pub returns-clause-front : goal.returns-clause-front
returns-clause-front c = record {
  left = ranges_of (known_items c.pop_known.new.self);
  front = front_next _ _ _ (known_items c.pop_known.new.self) _ _ c.slots_beside.ensures.fifo c.pop_known.ensures.received.1 c.pop_known.ensures.received.0;
}
