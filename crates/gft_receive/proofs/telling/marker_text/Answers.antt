use Rattle.std.proofs.Common.{ℕ, List, ◌≡◌, subst}
use Rattle.std.specs.Prelude.{IfOk}
use Rattle.gft_receive.proofs.TellingLemmas.{marker_line}
use Rattle.gft_receive.proofs.telling.marker_text.Goals as goal

pub returns : goal.returns
returns c =
    subst (λ (l : List ℕ). IfOk c.write.result (λ text. text.items ≡ l)) (marker_line c.in_ok-marker.marker c.args.ranges.now.ranges c.requires.named c.in_ok-marker.ensures.code c.in_ok-marker.ensures.lines)
    c.write.ensures.text
