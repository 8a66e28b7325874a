use Rattle.std.proofs.Common.{sym, ◌∙◌}
use Rattle.gft_core.specs.Done.{since}
use Rattle.gft_core.proofs.MachineLemmas.{error_of}
use Rattle.gft_core.proofs.ProgressLemmas.{broken-eod, Tells-eod}
use Rattle.gft_core.proofs.progress.Progress.eod.Goals as goal

pub returns-in_default : goal.returns-in_default
returns-in_default c lane events t = Tells-eod lane events c.args.self.now c.in_default.not-Counting t

pub returns-then-is_err : goal.returns-then-is_err
returns-then-is_err c =
    let error = error_of c.eod.result _ (sym c.is_err.ensures.value ∙ c.if-is_err.true) c.eod.ensures.refused in
    rw c.in-Counting.is (λ lane events t. broken-eod lane (since events) c.in-Counting.count error.0 error.1 t.1)
