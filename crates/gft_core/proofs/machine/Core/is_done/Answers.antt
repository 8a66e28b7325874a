use Rattle.std.proofs.Common.{refl}
use Rattle.gft_core.proofs.MachineLemmas.{done_where_whole}
use Rattle.gft_core.proofs.machine.Core.is_done.Goals as goal

pub returns-then-is_met : goal.returns-then-is_met
returns-then-is_met c =
    rw (← c.self.view_is)
    (record {
      done = λ events s. done_where_whole events _ c.end.result c.covers.result s c.if-is_met.ensures.sound (c.if-is_met.ensures.met.0 refl) c.end.ensures.below c.end.ensures.reached c.covers.ensures.each;
    })
