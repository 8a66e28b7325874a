use Rattle.std.proofs.Common.{◌≡◌, ◌∙◌, ◌++◌, Err, None, Ok, arith, false, true, refl, ap, sym, ◌∷◌, [], map}
use Rattle.std.proofs.lemmas.Option.{same_Some}
use Rattle.gft_drive.specs.Words.{sent_by}
use Rattle.gft_keep.specs.Words.{keep_of}
use Rattle.gft_book.specs.Words.{KeptSince, book_of, start_now}
use Rattle.gft_book.proofs.Lemmas.{HasAllPasses-begun, IsLive-running}
use Rattle.gft_pass.specs.declared.cause.Cause.TheVariants as causes
use Rattle.gft_library.specs.Words.{word_of_file}
use Rattle.gft_receive.specs.Words.{marker_of}
use Rattle.gft_receive.proofs.Lemmas.{begun_fresh, begun_many, begun_running}
use Rattle.gft_session.specs.Asking.{word_reply}
use Rattle.gft_session.specs.Receiving.{endings, failures, marks_due}
use Rattle.gft_reply_kind.specs.Words.{reply_of}
use Rattle.gft_session.specs.Settings.{around_of}
use Rattle.gft_session.specs.declared.session_end.Stopped.TheVariants as stops
use Rattle.gft_reply_kind.specs.declared.ReplyKind.TheVariants as kinds
use Rattle.gft_session.proofs.MarkerLemmas.{begun_label, marks_open, marks_part, marks_put, marks_rose, marks_same, none_failed}
use Rattle.gft_session.proofs.StoringLemmas.{has_received, nothing_received, puts_behind, puts_first, settled_taken, takes_none, takes_not, whole_first}
use Rattle.gft_session.proofs.storing.store.Goals as goal

pub returns-in-Err-clause-gives : goal.returns-in-Err-clause-gives
returns-in-Err-clause-gives g c how is =
    let before = book_of g.S.D.Drive.state c.args.begun.storing.book in
    let live = IsLive-running (sent_by g.O.Origin.source g.O.Origin.orders g.O.Origin.fit) before c.facts.ensures (begun_running _ _ _ _ _ is.begins) in record {
      brought = _;
      is_row = nothing_received _ c.args.begun.part c.args.begun.name how c.args.begun.lanes.items _ _ c.args.begun.storing.book c.args.begun.storing.passes.items is live.kept c.give_back.ensures.returned;
      puts = puts_first (reply_of kinds.Opening) (reply_of (kinds.Failed causes.Memory) ∷ []) (Err c.in-Err.stopped) _ _ (λ ok. absurd (cc ok)) (rw c.in-Err.is at c.say.ensures.puts);
      takes = takes_not (Unit {0}) c.in-Err.stopped _ _;
    }

pub receive-outcome-requires-clause-passes : goal.receive-outcome-requires-clause-passes
receive-outcome-requires-clause-passes g c κs within =
    let begins = c.requires.begun.1.begins in
    let many = begun_many _ _ _ _ _ begins in
    (HasAllPasses-begun _ _ _ _ _ begins, begun_fresh _ _ _ _ _ begins, omega (arith, many, c.args.begun.storing.passes.ok.0, c.args.begun.lanes.ok.0))

pub returns-in-Some-clause-gives : goal.returns-in-Some-clause-gives
returns-in-Some-clause-gives g c how is =
    let around = around_of c.args.config.now g.K.In.Lane.state g.S.D.Drive.state (sent_by g.O.Origin.source g.O.Origin.orders g.O.Origin.fit) in
    let has = c.receive-outcome.ensures.told in
    let opened = whole_first (reply_of kinds.Opening) c.say.result _ _ (rw c.in-Ok.is refl) c.say.ensures.puts in
    let told = same_Some _ _ (rw c.in-Ok-end.finished-is at c.in-Some.ensures.answer) in
    let put = none_failed _ _ _ _ _ _ _ _ _ _ _ c.receive-outcome.result.put_failed c.in-Ok-end.finished has c.in-Ok-end.is in
    let last = reply_of (word_reply (word_of_file c.in-Ok-end.finished)) in record {
      brought = _;
      is_row = has_received around c.args.begun.part c.args.begun.name how c.args.begun.lanes.items c.receive-outcome.result.lanes.items _ _ c.args.begun.storing.book c.receive-outcome.result.book c.args.begun.storing.passes.items c.receive-outcome.result.outcome.end c.receive-outcome.result.put_failed has.told has.left
          is (rw c.unwrap_or.ensures at c.receive-outcome.ensures.receives) c.receive-outcome.ensures.kept (rw is.label at c.receive-outcome.ensures.honest) (rw c.unwrap_or.ensures at c.receive-outcome.ensures.complete) (rw (begun_label _ _ _ _ _ is.begins ∙ is.label) at has.tells) c.give_back-2.ensures.returned;
      puts = rw c.in-Ok-end.is (puts_behind (reply_of kinds.Opening ∷ []) (map marker_of (marks_due c.receive-outcome.result.put_failed has.told has.left) ++ last ∷ []) c.give.result _ _ _ opened
          (puts_behind (map marker_of (marks_due c.receive-outcome.result.put_failed has.told has.left)) (last ∷ []) c.give.result _ _ _ (marks_put _ _ _ _ _ _ _ _ _ _ _ c.receive-outcome.result.put_failed has put)
          (puts_first last [] c.give.result _ _ (λ ok. refl) (rw (c.answered.ensures.reply, ap (λ a. a.word) told) at c.give.ensures.puts))));
      takes = rw (c.in-Ok-end.is, sym (settled_taken c.args.begun.name c.in-Ok-end.finished)) (rw (c.answered.ensures.answer, told) at c.give.ensures.takes);
    }

pub returns-then-put_failed-clause-gives : goal.returns-then-put_failed-clause-gives
returns-then-put_failed-clause-gives g c how is =
    let around = around_of c.args.config.now g.K.In.Lane.state g.S.D.Drive.state (sent_by g.O.Origin.source g.O.Origin.orders g.O.Origin.fit) in
    let has = c.receive-outcome.ensures.told in
    let opened = whole_first (reply_of kinds.Opening) c.say.result _ _ (rw c.in-Ok.is refl) c.say.ensures.puts in
    let marks = map marker_of (marks_due c.receive-outcome.result.put_failed has.told has.left) in
    record {
      brought = _;
      is_row = has_received around c.args.begun.part c.args.begun.name how c.args.begun.lanes.items c.receive-outcome.result.lanes.items _ _ c.args.begun.storing.book c.receive-outcome.result.book c.args.begun.storing.passes.items c.receive-outcome.result.outcome.end c.receive-outcome.result.put_failed has.told has.left
          is (rw c.unwrap_or.ensures at c.receive-outcome.ensures.receives) c.receive-outcome.ensures.kept (rw is.label at c.receive-outcome.ensures.honest) (rw c.unwrap_or.ensures at c.receive-outcome.ensures.complete) (rw (begun_label _ _ _ _ _ is.begins ∙ is.label) at has.tells) c.give_back-2.ensures.returned;
      puts = puts_behind (reply_of kinds.Opening ∷ []) (marks ++ map reply_of (endings c.receive-outcome.result.outcome.end)) (Err stops.OutFault) _ _ _ opened
          (marks_part _ _ _ _ _ _ _ _ _ _ _ (Unit {0}) (map reply_of (endings c.receive-outcome.result.outcome.end)) c.receive-outcome.result.put_failed has c.if-put_failed.true);
      takes = rw c.in-Err-end.is (takes_not (Unit {0}) stops.OutFault None _);
    }

pub returns-else-put_failed-clause-gives : goal.returns-else-put_failed-clause-gives
returns-else-put_failed-clause-gives g c how is =
    let around = around_of c.args.config.now g.K.In.Lane.state g.S.D.Drive.state (sent_by g.O.Origin.source g.O.Origin.orders g.O.Origin.fit) in
    let has = c.receive-outcome.ensures.told in
    let opened = whole_first (reply_of kinds.Opening) c.say.result _ _ (rw c.in-Ok.is refl) c.say.ensures.puts in
    let marks = map marker_of (marks_due c.receive-outcome.result.put_failed has.told has.left) in
    record {
      brought = _;
      is_row = has_received around c.args.begun.part c.args.begun.name how c.args.begun.lanes.items c.receive-outcome.result.lanes.items _ _ c.args.begun.storing.book c.receive-outcome.result.book c.args.begun.storing.passes.items c.receive-outcome.result.outcome.end c.receive-outcome.result.put_failed has.told has.left
          is (rw c.unwrap_or.ensures at c.receive-outcome.ensures.receives) c.receive-outcome.ensures.kept (rw is.label at c.receive-outcome.ensures.honest) (rw c.unwrap_or.ensures at c.receive-outcome.ensures.complete) (rw (begun_label _ _ _ _ _ is.begins ∙ is.label) at has.tells) c.give_back-2.ensures.returned;
      puts = rw c.in-Err-end.is (puts_behind (reply_of kinds.Opening ∷ []) (marks ++ map reply_of (failures c.in-Err-end.cause)) c.fail.result _ _ _ opened
          (puts_behind marks (map reply_of (failures c.in-Err-end.cause)) c.fail.result _ _ _ (marks_put _ _ _ _ _ _ _ _ _ _ _ c.receive-outcome.result.put_failed has c.if-put_failed.false) c.fail.ensures.puts));
      takes = rw c.in-Err-end.is (takes_none c.fail.result _);
    }
