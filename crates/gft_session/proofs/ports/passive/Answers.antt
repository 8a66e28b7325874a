use Rattle.std.proofs.Common.{refl, inr, rules}
use Rattle.gft_reply_kind.specs.declared.ReplyKind.TheVariants.{Passive}
use Rattle.gft_session.proofs.PortLemmas.{one_place, single}
use Rattle.gft_session.proofs.ports.passive.Goals as goal

pub index-requires : goal.index-requires
index-requires g c = let one = one_place _ _ _ _ c.in-Ok.ensures.listens in search (rules, one)

pub returns-in-Ok-clause-answers : goal.returns-in-Ok-clause-answers
returns-in-Ok-clause-answers g c =
    let at = c.index.result.now in
    inr (record {
      places = c.in-Ok.places.items;
      kind = Passive at;
      listens = c.in-Ok.ensures.listens;
      named = (at, single _ at (one_place _ _ _ _ c.in-Ok.ensures.listens) c.index.ensures, refl);
      reply = refl;
    })
