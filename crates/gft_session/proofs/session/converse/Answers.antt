use Rattle.std.proofs.Common.{ap, arith, refl, ◌∙◌}
use Rattle.gft_text.specs.Words.{shown}
use Rattle.gft_session.proofs.FitLemmas.{line_fit}
use Rattle.gft_session.proofs.PutLemmas.{tallies_none}
use Rattle.gft_session.proofs.SessionLemmas.{begins, closed, goes_on, never_begins, quits, stopped}
use Rattle.gft_session.proofs.session.converse.Goals as goal

pub returns-in-Err-clause-talk : goal.returns-in-Err-clause-talk
returns-in-Err-clause-talk g c =
    rw c.ended.ensures (never_begins _ _ _ _ _ _ c.say.result c.in-Err.stopped c.say.ensures.puts (tallies_none _) c.in-Err.is)

pub lines-init : goal.lines-init
lines-init g c =
    let puts = c.say.ensures.puts in record {
      so_far = begins _ _ _ _ _ _ _ c.new-lines.ensures.to_come (rw (puts.whole (rw c.in-Ok.is refl)) at puts.put) (tallies_none _);
      is_open = c.in-Ok.ensures.open;
      ours = refl;
      room = c.requires.ours;
      clock = refl;
      fit = c.requires.fit;
      heard = refl;
      put = c.in-Ok.ensures.stopped;
    }

pub lines-preserved : goal.lines-preserved
lines-preserved g c = record {
  so_far = rw (c.answer.ensures.unasked.0, c.answer.ensures.unasked.1) (goes_on _ _ _ _ _ _ _ _ _ _ _ _ _ _ _ c.lines.invariant.so_far c.in-Ok-next_line.ensures.heard refl
      c.in-Ok-true.ensures.answers.gives refl (rw c.in-Ok-true.field-0-test at c.in-Ok-true.ensures.answers.goes_on));
  is_open = c.in-Ok-true.ensures.open;
  ours = omega (arith, c.lines.invariant.ours, c.answer.ensures.ours);
  room = omega (arith, c.lines.invariant.room, c.answer.ensures.ours);
  clock = c.answer.ensures.unasked.2 ∙ c.lines.invariant.clock;
  fit = line_fit _ _ _ c.in-Ok-true.ensures.answers.gives.brought _ c.requires.config.few c.in-Ok-true.ensures.answers.gives.is_row c.lines.invariant.fit;
  heard = ap (λ s. (g.C.Control.state s).faults) c.answer.ensures.unasked.0 ∙ c.in-Ok-next_line.ensures.faults ∙ c.lines.invariant.heard;
  put = c.in-Ok-true.ensures.stopped ∙ c.lines.invariant.put;
}

pub returns-in-Ok-false-clause-talk : goal.returns-in-Ok-false-clause-talk
returns-in-Ok-false-clause-talk g c =
    rw c.answer.ensures.unasked.0 (quits _ _ _ _ _ _ _ _ _ _ _ _ _ _ _ c.lines.invariant.so_far c.in-Ok-next_line.ensures.heard refl
    c.in-Ok-false.ensures.answers.gives refl (rw c.in-Ok-false.field-0-test at c.in-Ok-false.ensures.answers.goes_on))

pub returns-in-Err-answer-clause-talk : goal.returns-in-Err-answer-clause-talk
returns-in-Err-answer-clause-talk g c =
    rw (c.ended-in-Err-answer.ensures, c.answer.ensures.unasked.0) (stopped _ _ _ _ _ _ _ _ _ _ _ _ _ _ _ c.in-Err-answer.stopped c.lines.invariant.so_far c.in-Ok-next_line.ensures.heard refl
    c.answer.ensures.answers.gives c.in-Err-answer.is)

pub returns-in-Err-next_line-clause-talk : goal.returns-in-Err-next_line-clause-talk
returns-in-Err-next_line-clause-talk g c =
    closed _ _ _ _ _ _ _ _ _ _ _ c.in-Err-next_line.end c.close.result c.lines.invariant.so_far c.in-Err-next_line.ensures.heard c.close.ensures.closes refl

pub answer-requires-clause-honest : goal.answer-requires-clause-honest
answer-requires-clause-honest g c κs within command is =
    c.requires.honest c.lines.invariant.so_far.turns _ (shown c.next_line.new.lines) command c.lines.invariant.so_far.leads is

pub returns-in-Err-next_line-clause-clock : goal.returns-in-Err-next_line-clause-clock
returns-in-Err-next_line-clause-clock g c = c.lines.invariant.clock

pub returns-in-Ok-false-clause-clock : goal.returns-in-Ok-false-clause-clock
returns-in-Ok-false-clause-clock g c = c.answer.ensures.unasked.2 ∙ c.lines.invariant.clock

pub returns-in-Err-answer-clause-clock : goal.returns-in-Err-answer-clause-clock
returns-in-Err-answer-clause-clock g c = c.answer.ensures.unasked.2 ∙ c.lines.invariant.clock
