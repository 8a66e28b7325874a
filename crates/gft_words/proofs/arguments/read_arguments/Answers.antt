use Rattle.std.proofs.Common.{◌≡◌, ◌<◌, [], ◌∷◌, ◌++◌, map, length, arith, rules}
use Rattle.std.proofs.lemmas.List.{map-append}
use Rattle.std.proofs.lemmas.Grind.{common_steps}
use Rattle.gft_words.specs.Arguments.{Gives, given_by, texts}
use Rattle.gft_words.proofs.ArgumentLemmas.{gives-push, gives_more}
use Rattle.gft_words.proofs.arguments.read_arguments.Goals as goal

pub returns-in_default-clause-none : goal.returns-in_default-clause-none
returns-in_default-clause-none c = λ given all.
    let some : 0 < length c.loop-rest.rest.now = grind (arith, common_steps) in
    let next = gives_more _ _ given c.loop-rest.rest.now c.loop-rest.invariant some all in
    (rw c.in_default.is at c.next_argument.ensures) next.0 next.1 next.2

pub loop-rest-preserved : goal.loop-rest-preserved
loop-rest-preserved c =
    let items : c.push.new.self.items ≡ c.loop-rest.arguments.items ++ c.in-Some.argument ∷ [] = search rules in
    let pushed : Gives (texts c.args.words.now) (map given_by (c.loop-rest.arguments.items ++ c.in-Some.argument ∷ [])) (texts c.in-Some.behind.now) = rw map-append (gives-push _ _ _ _ _ c.loop-rest.invariant c.in-Some.ensures.0) in
    rw (← items) at pushed
