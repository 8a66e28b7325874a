use Rattle.std.proofs.Common.{refl, inr}
use Rattle.gft_reply_kind.specs.declared.ReplyKind.TheVariants.{Striped}
use Rattle.gft_session.proofs.ports.striped.Goals as goal

pub returns-in-Ok-clause-answers : goal.returns-in-Ok-clause-answers
returns-in-Ok-clause-answers g c =
    inr (record {
      places = c.in-Ok.places.items;
      kind = Striped c.in-Ok.places;
      listens = c.in-Ok.ensures.listens;
      named = (c.in-Ok.places, refl, refl);
      reply = refl;
    })
