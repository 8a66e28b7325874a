use Rattle.std.proofs.Common.{◌∙◌}
use Rattle.gft_receive.proofs.TellingLemmas.{puts_one}
use Rattle.gft_receive.proofs.telling.put_line.Goals as goal

pub returns-in-Ok-put-clause-told : goal.returns-in-Ok-put-clause-told
returns-in-Ok-put-clause-told g c =
    puts_one g.W.Sink.written g.W.Sink.is_open g.W.Sink.faults c.args.out.now c.put.new.self c.args.ranges.now.ranges c.deref.result.now (c.deref.ensures.value ∙ c.in-Ok.ensures)
    c.in-Ok-put.ensures.put c.in-Ok-put.ensures.open c.in-Ok-put.ensures.cause.kept
