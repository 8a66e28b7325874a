use Rattle.std.proofs.Common.{ap, arith, inl, inr, length, refl, sym}
use Rattle.gft_session.specs.Jobs.{store_refusal}
use Rattle.gft_session.specs.Settings.{held, state_of}
use Rattle.gft_session.proofs.StoringLemmas.{begun_of, by_none, taken_for, word_text}
use Rattle.gft_session.proofs.jobs.begin_store.Goals as goal

pub returns-in-Ok-store : goal.returns-in-Ok-store
returns-in-Ok-store g c = record {
  stores = λ link config. (
    record {
      not_refused = rw (sym c.is_some.ensures, sym c.has_lanes-is_ready.ensures) c.in-Ok.ensures.checked.0;
      written = c.in-Ok.ensures.checked.1;
      part = refl;
      how = c.how_of.result;
      is_how = rw (ap (λ l. l.ranges) c.replace-list.ensures.value) at c.how_of.ensures.how;
      lanes = c.take_lanes.ensures.lanes;
      is_begun = rw c.count_lanes-lanes.ensures at (begun_of _ c.how_of.result c.count_lanes-lanes.result c.in-Ok-store.ensures.stores.1 c.in-Ok-store.storing.passes.items c.in-Ok-store.storing.book c.in-Ok.name c.in-Ok-store.ensures.label c.in-Ok-store.ensures.stores.2);
      state = rw (c.take_lanes.ensures.state, c.replace-list.ensures.after, c.new.ensures.ranges) refl;
    },
    refl,
  );
  held = omega (arith, ap (λ s. length (held s)) c.take_lanes.ensures.state, ap length c.take_lanes.ensures.lanes);
  text = tt;
}

pub returns-in-Err-store : goal.returns-in-Err-store
returns-in-Err-store g c = record {
  stores = λ link config. inr (by_none _ (store_refusal (state_of c.args.settings.now) (record { path = c.args.path.now; part = c.args.part })) (rw (sym c.is_some.ensures, sym c.has_lanes-is_ready.ensures) c.in-Ok.ensures.checked.0) (inl (record {
    what = record {
      name = c.in-Ok.name;
      written = c.in-Ok.ensures.checked.1;
      how = c.how_of.result;
      is_how = rw (ap (λ l. l.ranges) c.replace-list.ensures.value) at c.how_of.ensures.how;
    };
    word = c.in-Err-store.answer.word;
    can = c.in-Err-store.ensures.answers;
    gives = rw (c.answered.ensures.reply, c.answered.ensures.answer, taken_for c.in-Ok.name c.in-Err-store.answer c.in-Err-store.ensures.named) refl;
    state = rw (c.replace-list.ensures.after, c.new.ensures.ranges) refl;
    link = refl;
  })));
  held = omega arith;
  text = rw c.answered.ensures.reply (word_text c.in-Err-store.answer.word);
}
