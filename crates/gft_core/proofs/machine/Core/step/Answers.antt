use Rattle.gft_core.proofs.MachineLemmas.{on_ok}
use Rattle.gft_core.proofs.machine.Core.step.Goals as goal

pub returns-in-Block-clause-stands : goal.returns-in-Block-clause-stands
returns-in-Block-clause-stands c =
    rw c.in-Block.is (on_ok c.take.result _ _ (λ f events s. f c.in-Block.lane c.in-Block.channel events s) c.take.ensures.stands)
