use Rattle.std.proofs.Common.{◌≡◌, ◌&&◌, not, true, false, Some, None, refl, inl, inr, sym, ◌∙◌, if◌then◌else◌}
use Rattle.gft_text.specs.Words.{WritesName}
use Rattle.gft_session.specs.Jobs.{is_empty}
use Rattle.gft_session.specs.Settings.{state_of}
use Rattle.gft_session.proofs.JobLemmas.{no_list, refusal_at_last}
use Rattle.gft_session.proofs.jobs.check.Goals as goal
use Rattle.gft_session.proofs.jobs.check.Goals.{else-is_part-via-then-is_part+else-count-ne0, else-is_part-via-else-is_part}

pub returns-then-not-is_ready-clause-checked : goal.returns-then-not-is_ready-clause-checked
returns-then-not-is_ready-clause-checked g c =
    let part : (c.args.is_part && not (is_empty (state_of c.args.settings.now).rest)) ≡ false = elim c.else-is_part.branch [
      | else-is_part-via-then-is_part+else-count-ne0 w ↦ no_list _ _ w.count.result w.count.ensures.count (inr w.if-count-ne0.false)
      | else-is_part-via-else-is_part w ↦ no_list _ _ _ refl (inl w.if-is_part.false)
    ] in
    let writes : WritesName c.args.path.now c.in-Ok.name = rw (sym c.bytes.ensures) c.in-Ok.ensures.name in
    inl (rw (refusal_at_last (state_of c.args.settings.now) c.args.path.now c.in-Ok.name c.args.is_part c.args.is_ready c.args.last (sym c.is_binary.ensures ∙ c.if-not-is_binary.false) part writes, c.if-not-is_ready.true) refl)

pub returns-clause-checked : goal.returns-clause-checked
returns-clause-checked g c =
    let part : (c.args.is_part && not (is_empty (state_of c.args.settings.now).rest)) ≡ false = elim c.else-is_part.branch [
      | else-is_part-via-then-is_part+else-count-ne0 w ↦ no_list _ _ w.count.result w.count.ensures.count (inr w.if-count-ne0.false)
      | else-is_part-via-else-is_part w ↦ no_list _ _ _ refl (inl w.if-is_part.false)
    ] in
    let writes : WritesName c.args.path.now c.in-Ok.name = rw (sym c.bytes.ensures) c.in-Ok.ensures.name in
    (rw (refusal_at_last (state_of c.args.settings.now) c.args.path.now c.in-Ok.name c.args.is_part c.args.is_ready c.args.last (sym c.is_binary.ensures ∙ c.if-not-is_binary.false) part writes, c.if-not-is_ready.false) refl, writes)
