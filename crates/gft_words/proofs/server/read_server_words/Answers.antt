use Rattle.std.proofs.Common.{◌≡◌, map, rules, sym, ap, ◌∙◌}
use Rattle.gft_words.specs.Arguments.{given_by, texts}
use Rattle.gft_words.specs.Serve.{SaysServe}
use Rattle.gft_words.proofs.ArgumentLemmas.{gives-one, heads}
use Rattle.gft_words.proofs.server.read_server_words.Goals as goal

pub returns-clause-none : goal.returns-clause-none
returns-clause-none c = λ value is.
    let options = heads _ _ _ _ (sym is.begun ∙ ap texts c.in-Some.ensures.cases.0) in
    let given = gives-one _ _ _ (rw options.1 at is.read) c.in_ok-arguments.ensures.given in
    let items : c.as_slice.result.now ≡ c.in_ok-arguments.arguments.items = search rules in
    let says : SaysServe (map given_by c.in_ok-arguments.arguments.items) value = rw given at is.says in
    c.in-None.ensures value (rw items says)
