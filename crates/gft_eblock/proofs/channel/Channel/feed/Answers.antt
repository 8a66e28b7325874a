use Rattle.std.proofs.Common.{◌≡◌, ◌+◌, ◌-◌, ◌≤◌, ◌++◌, ◌∙◌, length, take, drop, None, arith, subst, ap, length-drop}
use Rattle.std.proofs.lemmas.Result.{err_from_is_err_and}
use Rattle.gft_eblock.specs.declared.event.Step.{Step}
use Rattle.gft_eblock.specs.Channel.{to_come, wanted}
use Rattle.gft_eblock.specs.Feeding.{Advances, Fails, IsEventOf, event_arrivals}
use Rattle.gft_eblock.proofs.FeedLemmas.{advance_more, fails_more, awaits_not_done, none_of, some_not_none, slice_from}
use Rattle.gft_eblock.proofs.ToComeLemmas.{Advances-not_bad}
use Rattle.gft_eblock.proofs.channel.Channel.feed.Goals as goal
use Rattle.gft_eblock.proofs.channel.Channel.feed.Goals.{then-is_some-via-then-is_some, then-is_some-via-else-is_some+then-used-piece}

pub returns-in_err-step-clause-bad : goal.returns-in_err-step-clause-bad
returns-in_err-step-clause-bad c =
    let p = err_from_is_err_and c.from_residual.result c.from_residual.ensures.1 in
    let used = c.loop-step.used in
    let fails = subst (λ rest. Fails c.loop-step.self rest c.in_err-step.field-0.0 c.step.new.self) (slice_from c.args.piece.now used) c.in_err-step.ensures.bad in
    rw (p.1, p.2) (fails_more c.args.self.now c.loop-step.self c.step.new.self c.args.piece.now used _ c.loop-step.invariant.used c.loop-step.invariant.taken c.loop-step.invariant.carried fails)

pub returns-then-is_some-clause-ok : goal.returns-then-is_some-clause-ok
returns-then-is_some-clause-ok c =
    let used = c.loop-step.used in
    let more = subst (λ rest. Advances c.loop-step.self rest c.in_ok-step.step c.step.new.self) (slice_from c.args.piece.now used) c.in_ok-step.ensures.ok in
    advance_more c.args.self.now c.loop-step.self c.step.new.self c.args.piece.now used c.in_ok-step.step c.loop-step.invariant.used c.loop-step.invariant.taken c.loop-step.invariant.carried more

pub returns-then-is_some-clause-refused : goal.returns-then-is_some-clause-refused
returns-then-is_some-clause-refused c refused came =
    let step : Step = record { used = c.loop-step.used + c.in_ok-step.step.used; event = c.in_ok-step.step.event } in
    let whole : step.event ≡ None → step.used ≡ length c.args.piece.now =
    λ none. elim c.then-is_some.branch [
      | then-is_some-via-then-is_some w ↦ absurd (some_not_none c.in_ok-step.step.event w.if-is_some.ensures none)
      | then-is_some-via-else-is_some+then-used-piece w ↦ w.if-used-piece.true
    ] in
    absurd (Advances-not_bad c.args.self.now c.args.piece.now step c.step.new.self refused (returns-then-is_some-clause-ok c) whole came)

pub loop-step-preserved : goal.loop-step-preserved
loop-step-preserved c =
    let none = none_of c.in_ok-step.step.event c.if-is_some.ensures in
    let used = c.loop-step.used in
    let more = subst (λ rest. Advances c.loop-step.self rest c.in_ok-step.step c.step.new.self) (slice_from c.args.piece.now used) c.in_ok-step.ensures.ok in
    let done = advance_more c.args.self.now c.loop-step.self c.step.new.self c.args.piece.now used c.in_ok-step.step c.loop-step.invariant.used c.loop-step.invariant.taken c.loop-step.invariant.carried more in
    record {
      used = done.used;
      taken = done.taken;
      carried = λ later. subst (λ event. to_come c.args.self.now (take (used + c.in_ok-step.step.used) c.args.piece.now ++ later) ≡ event_arrivals event ++ to_come c.step.new.self later) none (done.carried later);
      first = λ short.
          let at_first = c.loop-step.invariant.first short in
          let piece = c.args.piece.now in
          let len : length (take (length piece - used) (drop used piece)) ≡ length piece - used = ap length (slice_from piece used) ∙ length-drop used piece in
          let fits : length (take (length piece - used) (drop used piece)) ≤ wanted c.loop-step.self = rw at_first.1 (omega (arith, at_first.0)) in
          let all = c.in_ok-step.ensures.wanted fits in
          absurd (c.if-used-piece.false (omega (arith, all, at_first.0)));
      waited = λ zero.
          let eod = c.in_ok-step.ensures.waiting (rw (c.loop-step.invariant.waited zero) zero) in
          absurd (cc (none, eod.1));
      not_done = awaits_not_done c.step.new.self.state c.step.new.self.header (subst (λ event. IsEventOf event c.step.new.self.state c.step.new.self.header) none done.event);
      failed = λ bad failed.
          let at_first = c.loop-step.invariant.failed bad failed in
          let again = c.in_ok-step.ensures.again bad (rw at_first failed) in
          absurd (cc again.0);
    }
