use Rattle.std.proofs.Common.{◌≡◌, ◌<◌, ◌≤◌, ◌+◌, ◌++◌, [], Bool, cond, take, arith, length, length-append, refl, ap, ◌∙◌, subst, inl, inr}
use Rattle.std.proofs.lemmas.List.{length-take-le}
use Rattle.gft_eblock.specs.declared.TheConstants.{MAX_BYTES}
use Rattle.gft_eblock.specs.Words.{wanted}
use Rattle.gft_keep.specs.Words.{keep_of}
use Rattle.gft_drive.proofs.Lemmas.{Goes-then}
use Rattle.gridftpd.specs.Follows.{Follows}
use Rattle.gridftpd.specs.Images.{IsStored}
use Rattle.gridftpd.specs.declared.reading.TheConstants.{READ_LEN}
use Rattle.gridftpd.specs.Turn.{IsTurnsOutcome}
use Rattle.gridftpd.specs.declared.outcome.Outcome.{Outcome}
use Rattle.gridftpd.proofs.EndLemmas.{Consumes-append, Consumes-nothing, held_but_last, held_yet, met_none_yet}
use Rattle.gridftpd.proofs.StartLemmas.{end_runs, lost_runs, turn_runs}
use Rattle.gridftpd.proofs.FollowLemmas.{taken_more}
use Rattle.gridftpd.proofs.intake.Intake.run.Goals as goal
use Rattle.gridftpd.proofs.intake.Intake.run.Goals.{else-count-eq0-via-then-count-eq0+else-wants-gt0, else-count-eq0-via-else-count-eq0}

pub returns-then-wants-gt0-clause-caused : goal.returns-then-wants-gt0-clause-caused
returns-then-wants-gt0-clause-caused g c =
    let kept = c.reads.invariant in
    let none : take c.in-Ok.count c.read_next.new.buf ≡ [] = ap (λ n. take n c.read_next.new.buf) c.if-count-eq0.true in
    let ended = c.in-Ok.ensures.at_end c.if-count-eq0.true (omega (arith, c.if-wants-gt0.true, c.min.ensures, kept.follows.short, c.taken-room.ensures.taken)) in
    let stored = IsStored kept.stream (keep_of g.D.Drive.state c.reads.self.keep).drive in
    let caused = c.lost.ensures.caused kept.stream (g.I.Source.left c.read_next.new.input) kept.follows ended in (
      kept.stream,
      record { consumed = Consumes-nothing _ _ _ kept.stream (take c.in-Ok.count c.read_next.new.buf) none kept.consumed c.in-Ok.ensures.consumed; few = omega (arith, kept.follows.short); in_time = kept.follows.in_time },
      caused.0,
      lost_runs c.lost.result c.reads.self.channel.taken c.lost.ensures.which,
      caused.1,
      λ same. elim c.lost.ensures.which [ inl hole ↦ absurd {A = stored} (cc) | inr lost ↦ absurd {A = stored} (cc) ],
    )

pub returns-in_default-clause-caused : goal.returns-in_default-clause-caused
returns-in_default-clause-caused g c =
    let kept = c.reads.invariant in
    let awaits : 0 < wanted c.reads.self.channel = omega (arith, c.in_default.ensures.asked, c.min.ensures, c.wants-wants.ensures.wanted) in (
      kept.stream,
      record { consumed = Consumes-nothing _ _ _ kept.stream [] refl kept.consumed c.in_default.ensures.nothing; few = omega (arith, kept.follows.short); in_time = kept.follows.in_time },
      met_none_yet g.D.Drive.state kept.stream c.reads.self kept.follows awaits,
      tt,
      held_yet g.D.Drive.state kept.stream c.reads.self kept.follows awaits,
      λ same. cc,
    )

pub returns-then-count-room-clause-caused : goal.returns-then-count-room-clause-caused
returns-then-count-room-clause-caused g c =
    let kept = c.reads.invariant in
    let n = c.in-Ok.count in
    let wants : c.in-Ok.count ≤ wanted c.reads.self.channel = omega (arith, c.in-Ok.ensures.count.1, c.min.ensures, c.wants-wants.ensures.wanted) in
    let room : c.reads.self.channel.taken + c.in-Ok.count ≤ MAX_BYTES = omega (arith, c.in-Ok.ensures.count.1, c.min.ensures, c.taken-room.ensures.taken, kept.follows.short, kept.follows.taken) in
    let one_read : n ≤ READ_LEN = omega (arith, c.in-Ok.ensures.count.0, c.requires.room.1, c.reads.auto.buf, c.read_next.auto.buf) in
    let len : length (take n c.read_next.new.buf) ≡ n = length-take-le n c.read_next.new.buf c.in-Ok.ensures.count.0 in (
      kept.stream ++ take n c.read_next.new.buf,
      taken_more g.D.Drive.state kept.stream c.reads.self _ _ _ c.read_next.new.buf n kept.follows kept.consumed c.in-Ok.ensures.consumed c.in-Ok.ensures.count.0 wants room,
      omega (arith, length-append kept.stream (take n c.read_next.new.buf), len, c.if-count-room.true, c.taken-room.ensures.taken, kept.follows.taken, kept.follows.short),
      tt,
      held_but_last g.D.Drive.state kept.stream c.reads.self (take n c.read_next.new.buf) kept.follows (omega (arith, wants, c.if-count-room.true, c.taken-room.ensures.taken, kept.follows.taken, kept.follows.short)) (omega (arith, len, one_read)),
      λ same. cc,
    )

pub finish-requires-clause-is_open : goal.finish-requires-clause-is_open
finish-requires-clause-is_open g c = λ κs below. (c.in-Ok-true.ensures.follows c.reads.invariant.stream c.reads.invariant.follows).is_open

pub returns-in-Ok-true-clause-caused : goal.returns-in-Ok-true-clause-caused
returns-in-Ok-true-clause-caused g c =
    let kept = c.reads.invariant in
    let stream = kept.stream ++ take c.in-Ok.count c.read_next.new.buf in
    let wants : c.in-Ok.count ≤ wanted c.reads.self.channel = omega (arith, c.in-Ok.ensures.count.1, c.min.ensures, c.wants-wants.ensures.wanted) in
    let room : c.reads.self.channel.taken + c.in-Ok.count ≤ MAX_BYTES = omega (arith, c.in-Ok.ensures.count.1, c.min.ensures, c.taken-room.ensures.taken, kept.follows.short, kept.follows.taken) in
    let ended = c.in-Ok-true.field-0-test in
    let done = c.in-Ok-true.ensures.ended.0 ended in
    let follows = subst (λ (b : Bool). Follows g.D.Drive.state (cond b 1 0) stream c.turn.new.self) ended (c.in-Ok-true.ensures.follows kept.stream kept.follows) in
    let caused = c.finish.ensures.caused stream (g.I.Source.left c.read_next.new.input) follows done in (
      stream,
      taken_more g.D.Drive.state kept.stream c.reads.self _ _ _ c.read_next.new.buf c.in-Ok.count kept.follows kept.consumed c.in-Ok.ensures.consumed c.in-Ok.ensures.count.0 wants room,
      caused.0,
      end_runs c.finish.result c.finish.ensures.which,
      caused.1,
      λ same. c.finish.ensures.complete stream follows done same,
    )

pub returns-in-Err-clause-caused : goal.returns-in-Err-clause-caused
returns-in-Err-clause-caused g c =
    let kept = c.reads.invariant in
    let stream = kept.stream ++ take c.in-Ok.count c.read_next.new.buf in
    let wants : c.in-Ok.count ≤ wanted c.reads.self.channel = omega (arith, c.in-Ok.ensures.count.1, c.min.ensures, c.wants-wants.ensures.wanted) in
    let room : c.reads.self.channel.taken + c.in-Ok.count ≤ MAX_BYTES = omega (arith, c.in-Ok.ensures.count.1, c.min.ensures, c.taken-room.ensures.taken, kept.follows.short, kept.follows.taken) in
    let caused = c.in-Err.ensures.caused kept.stream (g.I.Source.left c.read_next.new.input) kept.follows in (
      stream,
      taken_more g.D.Drive.state kept.stream c.reads.self _ _ _ c.read_next.new.buf c.in-Ok.count kept.follows kept.consumed c.in-Ok.ensures.consumed c.in-Ok.ensures.count.0 wants room,
      caused.0,
      turn_runs c.in-Err.outcome c.in-Err.ensures.which,
      caused.1,
      λ same. absurd {A = IsStored stream (keep_of g.D.Drive.state c.turn.new.self.keep).drive} (subst (λ (outcome : Outcome). IsTurnsOutcome outcome) same c.in-Err.ensures.which),
    )

pub reads-smaller : goal.reads-smaller
reads-smaller g c =
    let kept = c.reads.invariant in
    let piece = take c.in-Ok.count c.read_next.new.buf in
    let len : length piece ≡ c.in-Ok.count = length-take-le c.in-Ok.count c.read_next.new.buf c.in-Ok.ensures.count.0 in
    let grown = c.in-Ok-false.ensures.follows kept.stream kept.follows in
    let some : 0 < c.in-Ok.count = elim c.else-count-eq0.branch [
      | else-count-eq0-via-then-count-eq0+else-wants-gt0 w ↦
          let none : wanted c.reads.self.channel ≡ 0 = omega (arith, w.if-wants-gt0.false, c.wants-wants.ensures.wanted) in
          absurd (let ended = c.in-Ok-false.ensures.waiting none in cc (ended, c.in-Ok-false.field-0-test))
      | else-count-eq0-via-else-count-eq0 w ↦ omega (arith, w.if-count-eq0.false)
    ] in
    omega (arith, kept.follows.short, kept.follows.taken, grown.taken, length-append kept.stream piece, len, some)

pub reads-preserved : goal.reads-preserved
reads-preserved g c =
    let kept = c.reads.invariant in
    let piece = take c.in-Ok.count c.read_next.new.buf in
    let more = c.in-Ok-false.field-0-test in
    let len : length piece ≡ c.in-Ok.count = length-take-le c.in-Ok.count c.read_next.new.buf c.in-Ok.ensures.count.0 in
    let grown = c.in-Ok-false.ensures.follows kept.stream kept.follows in
    record {
      stream = kept.stream ++ piece;
      consumed = Consumes-append _ _ _ kept.stream piece kept.consumed c.in-Ok.ensures.consumed;
      follows = subst (λ (b : Bool). Follows g.D.Drive.state (cond b 1 0) (kept.stream ++ piece) c.turn.new.self) more grown;
      not_done = λ done. cc (more, c.in-Ok-false.ensures.ended.1 done);
      goes = Goes-then _ _ _ kept.goes c.turn.ensures.goes;
      read_faults = c.in-Ok.ensures.cause.kept ∙ kept.read_faults;
      drive_faults = c.in-Ok-false.ensures.drive ∙ kept.drive_faults;
    }
