use Rattle.gft_receive.proofs.TellingLemmas.{put_next}
use Rattle.gft_receive.proofs.telling.Told.tell.Goals as goal

pub returns-in-Ok-clause-tells : goal.returns-in-Ok-clause-tells
returns-in-Ok-clause-tells g c = λ first made has.
    put_next g.W.Sink.written g.W.Sink.is_open g.W.Sink.faults first c.args.out.now c.put_line.new.out made c.args.ranges.now.ranges c.args.self.now c.saturating_add-self.result c.requires.none c.saturating_add-self.ensures has c.in-Ok.ensures.told
