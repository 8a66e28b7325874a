use Rattle.std.proofs.Common.{sym, ◌∙◌}
use Rattle.gft_core.specs.Done.{since}
use Rattle.gft_core.proofs.MachineLemmas.{error_of, value_of}
use Rattle.gft_core.proofs.ProgressLemmas.{broken-eof, Counts-eof, Tells-eof}
use Rattle.gft_core.proofs.progress.Progress.eof.Goals as goal

pub returns-in_default : goal.returns-in_default
returns-in_default c events t = Tells-eof c.args.total events c.args.self.now c.in_default.not-Counting t

pub returns-then-is_err : goal.returns-then-is_err
returns-then-is_err c =
    let error = error_of c.eof.result _ (sym c.is_err.ensures.value ∙ c.if-is_err.true) c.eof.ensures.refused in
    rw c.in-Counting.is (λ events t. broken-eof c.args.total (since events) c.in-Counting.count error.0 error.1 t.1)

pub returns-else-is_err : goal.returns-else-is_err
returns-else-is_err c =
    let no = sym c.is_err.ensures.value ∙ c.if-is_err.false in
    let fits = value_of c.eof.result _ no c.eof.ensures.taken in
    let kept = value_of c.eof.result _ no c.eof.ensures.total in
    rw c.in-Counting.is (λ events t. (t.0, Counts-eof c.args.total (since events) c.in-Counting.count c.eof.new.self fits kept c.eof.ensures.eods t.1))
