use Rattle.std.proofs.Common.{Ok, ap, inl, inr, not, refl, sym, true}
use Rattle.gft_drive.specs.Words.{sent_by}
use Rattle.gft_session.specs.Brought.{brought_of}
use Rattle.gft_session.specs.Conversation.{IsQuit}
use Rattle.gft_session.specs.Settings.{around_of}
use Rattle.gft_session.specs.Table.{AnswersLine}
use Rattle.gft_session.proofs.PutLemmas.{gives}
use Rattle.gft_session.proofs.QuitLemmas.{quit_read, quit_told}
use Rattle.gft_session.proofs.StoringLemmas.{gives_err, gives_ok, gives_so, row_behind, stores_file}
use Rattle.gft_session.proofs.answering.answer.Goals as goal

pub returns-in-Err-clause-answers : goal.returns-in-Err-clause-answers
returns-in-Err-clause-answers g c =
    let told = c.give_and_tell.ensures in
    let not_quit : ¬ IsQuit c.line.result.now = λ quit. let h = c.in-Err.ensures.quit quit in cc in rw (sym c.line.ensures.shown) (record {
      gives = gives _ _ _ c.give_and_tell.result _ _ (inr (record { why = c.in-Err.why; refused = c.in-Err.ensures.refused; not_quit = not_quit; says = record { reply = ap brought_of c.alone.ensures; state = refl; link = refl } })) told.puts told.takes;
      goes_on = quit_told c.give_and_tell.result true c.line.result.now told.told not_quit;
    })

pub store-requires-clause-begun : goal.store-requires-clause-begun
store-requires-clause-begun g c κs within =
    let by = c.in-Store.ensures.step.0 in (
      by.begins.how,
      rw by.begins.lanes by.begins.is_begun,
      rw (by.begins.part, by.begins.lanes) (c.requires.honest c.in-Ok.command (rw c.line.ensures.shown at c.in-Ok.ensures.command) by.job by.stored c.in-Store.begun.name by.begins.how by.begins.written by.begins.is_how),
    )

pub returns-in-Say-clause-answers : goal.returns-in-Say-clause-answers
returns-in-Say-clause-answers g c =
    let told = c.give_and_tell-in-Say.ensures in rw (sym c.line.ensures.shown) (record {
      gives = gives _ _ _ c.give_and_tell-in-Say.result _ _ (inl (record { command = c.in-Ok.command; reads = c.in-Ok.ensures.command; answers = c.in-Say.ensures.step })) told.puts told.takes;
      goes_on = quit_told c.give_and_tell-in-Say.result (not c.is_quit-goes_on.result) c.line.result.now told.told (quit_read c.is_quit-goes_on.result c.line.result.now c.in-Ok.command c.is_quit-goes_on.ensures c.in-Ok.ensures.command c.in-Ok.ensures.quit);
    })

pub returns-in-Ok-store-clause-answers : goal.returns-in-Ok-store-clause-answers
returns-in-Ok-store-clause-answers g c =
    let around = around_of c.args.config.now g.K.In.Lane.state g.S.D.Drive.state (sent_by g.O.Origin.source g.O.Origin.orders g.O.Origin.fit) in
    let by = c.in-Store.ensures.step.0 in rw (sym c.line.ensures.shown) (record {
      gives = gives_ok _ c.store.result (not c.is_quit-goes_on.result) _ _ (rw c.in-Ok-store.is refl) (gives_so _ _ c.store.result _ _
          (λ brought stores. inl (record { command = c.in-Ok.command; reads = c.in-Ok.ensures.command; answers = row_behind _ _ c.in-Store.ensures.step.1 (stores_file around c.in-Ok.command _ _ _ c.in-Store.begun brought by stores refl) }))
          (c.store.ensures.gives by.begins.how (rw by.begins.lanes by.begins.is_begun)));
      goes_on = quit_told (Ok (not c.is_quit-goes_on.result)) (not c.is_quit-goes_on.result) c.line.result.now refl (quit_read c.is_quit-goes_on.result c.line.result.now c.in-Ok.command c.is_quit-goes_on.ensures c.in-Ok.ensures.command c.in-Ok.ensures.quit);
    })

pub returns-in-Err-store-clause-answers : goal.returns-in-Err-store-clause-answers
returns-in-Err-store-clause-answers g c =
    let around = around_of c.args.config.now g.K.In.Lane.state g.S.D.Drive.state (sent_by g.O.Origin.source g.O.Origin.orders g.O.Origin.fit) in
    let by = c.in-Store.ensures.step.0 in rw (sym c.line.ensures.shown) (record {
      gives = gives_err _ c.store.result c.in-Err-store.stopped _ _ c.in-Err-store.is (gives_so _ _ c.store.result _ _
          (λ brought stores. inl (record { command = c.in-Ok.command; reads = c.in-Ok.ensures.command; answers = row_behind _ _ c.in-Store.ensures.step.1 (stores_file around c.in-Ok.command _ _ _ c.in-Store.begun brought by stores refl) }))
          (c.store.ensures.gives by.begins.how (rw by.begins.lanes by.begins.is_begun)));
      goes_on = tt;
    })
