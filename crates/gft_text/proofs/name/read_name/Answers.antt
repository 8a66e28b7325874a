use Rattle.std.proofs.Common.{sym, ◌∙◌}
use Rattle.gft_text.proofs.NameLemmas.{faults, names, refuses_memory}
use Rattle.gft_text.proofs.name.read_name.Goals as goal

pub invariant_of-result : goal.invariant_of-result
invariant_of-result c = rw c.in_ok-from_slice.ensures.items (faults _ (sym c.in_default.ensures))

pub returns-clause-name : goal.returns-clause-name
returns-clause-name c = record {
  written = c.in_ok-from_slice.ensures.items ∙ c.without_slash-name.ensures;
  legal = rw c.in_ok-from_slice.ensures.items (faults _ (sym c.in_default.ensures));
}

pub returns-in-Some-clause-refused : goal.returns-in-Some-clause-refused
returns-in-Some-clause-refused c =
    let fault = rw c.without_slash-name.ensures at c.in-Some.ensures in
    (sym fault, λ legal. let none = names _ legal in cc)

pub returns-in_err-from_slice-clause-refused : goal.returns-in_err-from_slice-clause-refused
returns-in_err-from_slice-clause-refused c =
    let legal = rw c.without_slash-name.ensures at (faults c.without_slash-name.result.now (sym c.in_default.ensures)) in
    refuses_memory _ _ legal c.from_residual.ensures.1
