use Rattle.std.proofs.Common.{◌≡◌, ◌∷◌, map, take, true}
use Rattle.std.specs.Prelude.{codes}
use Rattle.std.specs.List.{list_all}
use Rattle.gft_text.specs.Words.{host_port_text}
use Rattle.gft_reply_kind.specs.Replies.{is_line}
use Rattle.gft_reply_kind.proofs.values.striped.Given as goal

abbrev pub invariant-places : goal.invariant-places
invariant-places l = record {
  lines : l.lines ≡ codes "Entering Striped Passive Mode." ∷ map host_port_text (take l.at-index l.places);
  test : list_all is_line l.lines ≡ true;
}
