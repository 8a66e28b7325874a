use Rattle.std.proofs.Common.{◌≡◌, ap, rules, arith}
use Rattle.std.specs.String.{string_bytes}
use Rattle.gft_words.specs.Arguments.{texts}
use Rattle.gft_words.proofs.ArgumentLemmas.{an_option, match_map, no_argument}
use Rattle.gft_words.proofs.arguments.next_argument.Goals as goal

pub returns-in-Some : goal.returns-in-Some
returns-in-Some c =
    let whole = ap texts c.in_ok-first.ensures.cases.0 in
    let word : c.as_bytes-word.result.now ≡ string_bytes c.in_ok-first.first.now = search rules in
    let dashes = rw word at c.in-Some.ensures in
    match_map c.next_option.result _ _ _ _ c.next_option.ensures (no_argument _ _ _ _ whole dashes)
    (λ next is. (an_option _ _ _ _ _ is.0 is.1 _ whole dashes is.2 is.3, omega (arith, is.4, c.in_ok-first.ensures.cases.1)))
