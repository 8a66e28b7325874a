use Rattle.std.proofs.Common.{◌≡◌, ◌∷◌, ◌++◌, [], length, length-append, length-take, take, ap, refl, arith, rules}
use Rattle.std.specs.Prelude.{codes}
use Rattle.std.proofs.lemmas.Grind.{common_steps}
use Rattle.std.proofs.lemmas.List.{length-map}
use Rattle.gft_text.specs.Words.{host_port_text}
use Rattle.gft_reply_kind.proofs.ReplyLemmas.{address, one_more_line, short_line}
use Rattle.gft_reply_kind.proofs.values.striped.Goals as goal

pub of_lines-requires-clause-count : goal.of_lines-requires-clause-count
of_lines-requires-clause-count c =
    let lines : c.push-2.new.self ≡ c.places.lines ++ codes "End" ∷ [] = search rules in
    let len = ap length c.places.invariant.lines in
    let pushed = ap length lines in (
      omega (arith, pushed, length-append c.places.lines (codes "End" ∷ [])),
      omega (arith, pushed, len, length-append c.places.lines (codes "End" ∷ []), length-map (take c.places.at-index c.args.places.now) host_port_text, length-take c.places.at-index c.args.places.now, c.requires),
    )

pub of_lines-requires-clause-lines : goal.of_lines-requires-clause-lines
of_lines-requires-clause-lines c =
    let lines : c.push-2.new.self ≡ c.places.lines ++ codes "End" ∷ [] = search rules in
    rw lines (one_more_line c.places.lines (codes "End") c.places.invariant.test refl)

pub places-preserved : goal.places-preserved
places-preserved c =
    let bytes = c.in_ok-write_host_port.field-0.items in
    let pushed : c.push-in-places.new.self ≡ c.places.lines ++ bytes ∷ [] = search rules in
    record {
      lines = grind (arith, common_steps);
      test = rw pushed (one_more_line c.places.lines bytes c.places.invariant.test (rw c.in_ok-write_host_port.ensures.text (short_line _ 126 (address _ bytes c.in_ok-write_host_port.ensures.read_again) (omega arith))));
    }
