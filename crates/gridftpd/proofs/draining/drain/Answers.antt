use Rattle.std.proofs.Common.{inl, inr}
use Rattle.gridftpd.proofs.OriginLemmas.{stored_is_source}
use Rattle.gridftpd.proofs.CertainLemmas.{fills_ranges}
use Rattle.gridftpd.proofs.StatusLemmas.{told_of, answers_of, certain_of}
use Rattle.gridftpd.proofs.draining.drain.Goals as goal

pub returns-clause-complete : goal.returns-clause-complete
returns-clause-complete g c zero =
    let stored = c.store_input-outcome.ensures.caused in
    let told = told_of c.store_input-outcome.result.0 c.tell.result _ _ _ _ c.number-2.result c.tell.ensures c.number-2.ensures in
    (stored.0, stored.1, stored.4 (told.complete zero))

pub returns-clause-told : goal.returns-clause-told
returns-clause-told g c =
    (c.tell.result, c.number-2.ensures, answers_of c.store_input-outcome.result.0 c.tell.result _ _ _ _ c.tell.ensures c.store_input-outcome.ensures.input c.store_input-outcome.ensures.drive)

pub returns-clause-right_words : goal.returns-clause-right_words
returns-clause-right_words g c words =
    let stored = c.store_input-outcome.ensures.caused in
    let told = told_of c.store_input-outcome.result.0 c.tell.result _ _ _ _ c.number-2.result c.tell.ensures c.number-2.ensures in (
      told.not_usage,
      record {
        ending = c.store_input-outcome.result.0;
        stream = stored.0;
        taken = stored.1;
        cause = stored.2;
        own = c.tell.result;
        number_is = c.number-2.ensures;
        told = c.tell.ensures;
        damage = c.store_input-outcome.ensures.damage;
        holds = stored.3;
        goes = c.store_input-outcome.ensures.goes;
      },
    )

pub returns-clause-certain : goal.returns-clause-certain
returns-clause-certain g c words bytes left good none undamaged =
    let stored = c.store_input-outcome.ensures.caused in
    let told = told_of c.store_input-outcome.result.0 c.tell.result _ _ _ _ c.number-2.result c.tell.ensures c.number-2.ensures in
    let answers = answers_of c.store_input-outcome.result.0 c.tell.result _ _ _ _ c.tell.ensures c.store_input-outcome.ensures.input c.store_input-outcome.ensures.drive in
    elim (certain_of c.tell.result c.number-2.result _ _ _ _ c.number-2.ensures answers none told.not_usage undamaged) [
      | inl zero ↦ inl zero
      | inr other ↦ elim other [
        | inl six ↦ inr (inl six)
        | inr one ↦
            let refused = told.refused one in
            inr (inr (one, fills_ranges bytes stored.0 (g.I.Source.left c.args.input.now) (g.I.Source.left c.store_input-outcome.new.input) _ _ c.store_input-outcome.result.0 left good stored.1 stored.2 refused.0 refused.1))
      ]
    ]

pub returns-clause-equal : goal.returns-clause-equal
returns-clause-equal g c source bytes named left honest zero =
    let state = g.D.Drive.state in
    let stored = c.store_input-outcome.ensures.caused in
    let told = told_of c.store_input-outcome.result.0 c.tell.result _ _ _ _ c.number-2.result c.tell.ensures c.number-2.ensures in
    stored_is_source source bytes stored.0 (g.I.Source.left c.args.input.now) (g.I.Source.left c.store_input-outcome.new.input) (state c.store_input-outcome.result.1) left honest stored.1 (stored.4 (told.complete zero))
