use Rattle.std.proofs.Common.{ap, arith, length, rules}
use Rattle.std.proofs.lemmas.List.{length-map}
use Rattle.std.proofs.lemmas.List.Elements.{All-map}
use Rattle.gft_outside.specs.Words.{IsNewLane}
use Rattle.gft_session.specs.Settings.{lanes_in, side_of}
use Rattle.gft_session.proofs.ports.listen.Goals as goal

pub returns-clause-ours : goal.returns-clause-ours
returns-clause-ours g c =
    let now = ap (λ s. length (lanes_in (side_of s))) c.replace-old.ensures.after in
    let was = ap (λ s. length (lanes_in (side_of s))) c.replace-old.ensures.value in
    omega (arith, now, was, ap length c.part.ensures.lanes, length-map c.in-Ok-listen.listening.items (λ one. one.lane), c.in-Ok-listen.ensures.out.handed_out, c.release.ensures.count)

pub returns-clause-listens : goal.returns-clause-listens
returns-clause-listens g c = record {
  listening = c.in-Ok-listen.listening.items;
  mid = g.K.Link.state c.listen.new.self;
  count = search rules;
  handed_out = c.in-Ok-listen.ensures.out;
  unused = All-map (λ l. IsNewLane (g.K.In.Lane.state l)) (λ one. one.lane) c.in-Ok-listen.listening.items c.in-Ok-listen.ensures.new;
  returned = search rules;
  shown = c.part.ensures.places;
  state = search rules;
}
