use Rattle.std.proofs.Common.{◌∙◌, ap, refl}
use Rattle.gft_drive.specs.Words.{sent_by}
use Rattle.gft_receive.specs.Moved.{Bounds}
use Rattle.gft_receive.proofs.MoverLemmas.{moved_done, moved_ended, moved_failed, moved_first, moved_on, moved_still, moved_stopped}
use Rattle.gft_receive.proofs.mover.receive_lane.Goals as goal

pub turns-init : goal.turns-init
turns-init g c = record {
  can_next = tt;
  finite = tt;
  moved = moved_first (sent_by g.O.Origin.source g.O.Origin.orders g.O.Origin.fit) g.N.Run.start (record { lane = c.args.pass.now.lane; shift = c.args.limits.now.shift; idle = c.args.limits.now.idle }) (g.L.Lane.state c.args.lane.now) c.args.pass.now c.new-mover.result c.new-mover.ensures.stands
      (c.new-mover.ensures.bounds ∙ ap (λ k. record { lane = k; shift = c.args.limits.now.shift; idle = c.args.limits.now.idle }) c.lane.ensures) c.requires.lane c.requires.fresh c.requires.honest;
  buffer = refl;
}

pub turns-preserved : goal.turns-preserved
turns-preserved g c =
    let bounds : Bounds = record { lane = c.args.pass.now.lane; shift = c.args.limits.now.shift; idle = c.args.limits.now.idle } in
    let sent = sent_by g.O.Origin.source g.O.Origin.orders g.O.Origin.fit in
    let h = moved_still sent g.N.Run.start bounds (g.L.Lane.state c.args.lane.now) c.args.pass.now (g.L.Lane.state c.turns.lane) c.turns.mover c.turns.pass c.awaits_more.new.pass c.turns.invariant.moved c.awaits_more.ensures.pass c.if-not-awaits_more.ensures.noted in
    record {
      can_next = tt;
      finite = tt;
      moved = moved_on sent g.N.Run.start bounds (g.L.Lane.state c.args.lane.now) c.args.pass.now (g.L.Lane.state c.turns.lane) (g.L.Lane.state c.turn.new.lane) c.turns.mover c.turn.new.self c.awaits_more.new.pass c.turn.new.pass c.in-Ok.field-0 h
          (c.in-Ok.ensures.turned h.inputs h.awaits.stands h.awaits.channels);
      buffer = c.in-Ok.ensures.buffer ∙ c.turns.invariant.buffer;
    }

pub returns-in-Err-Failed : goal.returns-in-Err-Failed
returns-in-Err-Failed g c =
    let bounds : Bounds = record { lane = c.args.pass.now.lane; shift = c.args.limits.now.shift; idle = c.args.limits.now.idle } in
    let sent = sent_by g.O.Origin.source g.O.Origin.orders g.O.Origin.fit in
    let h = moved_still sent g.N.Run.start bounds (g.L.Lane.state c.args.lane.now) c.args.pass.now (g.L.Lane.state c.turns.lane) c.turns.mover c.turns.pass c.awaits_more.new.pass c.turns.invariant.moved c.awaits_more.ensures.pass c.if-not-awaits_more.ensures.noted in
    let r = moved_failed sent g.N.Run.start bounds (g.L.Lane.state c.args.lane.now) c.args.pass.now c.requires.fresh (g.L.Lane.state c.turns.lane) (g.L.Lane.state c.turn.new.lane) c.turns.mover c.turn.new.self c.awaits_more.new.pass c.turn.new.pass c.fail.new.pass c.in-Err-Failed.cause h
    (rw c.in-Err-Failed.field-0-is at (c.in-Err-Failed.ensures.turned h.inputs h.awaits.stands h.awaits.channels)) c.fail.ensures.pass (rw c.in-Err-Failed.field-0-is at c.fail.ensures.learned) in
    record { pass = r.0; moved = r.1 }

pub returns-in-Err-Done : goal.returns-in-Err-Done
returns-in-Err-Done g c =
    let bounds : Bounds = record { lane = c.args.pass.now.lane; shift = c.args.limits.now.shift; idle = c.args.limits.now.idle } in
    let sent = sent_by g.O.Origin.source g.O.Origin.orders g.O.Origin.fit in
    let h = moved_still sent g.N.Run.start bounds (g.L.Lane.state c.args.lane.now) c.args.pass.now (g.L.Lane.state c.turns.lane) c.turns.mover c.turns.pass c.awaits_more.new.pass c.turns.invariant.moved c.awaits_more.ensures.pass c.if-not-awaits_more.ensures.noted in
    let r = moved_done sent g.N.Run.start bounds (g.L.Lane.state c.args.lane.now) c.args.pass.now c.requires.fresh (g.L.Lane.state c.turns.lane) (g.L.Lane.state c.turn.new.lane) c.turns.mover c.turn.new.self c.awaits_more.new.pass c.turn.new.pass h
    (rw c.in-Err-Done.field-0-is at (c.in-Err-Done.ensures.turned h.inputs h.awaits.stands h.awaits.channels)) in
    record { pass = r.0; moved = r.1 }

pub returns-in-Err-Stopped : goal.returns-in-Err-Stopped
returns-in-Err-Stopped g c =
    let bounds : Bounds = record { lane = c.args.pass.now.lane; shift = c.args.limits.now.shift; idle = c.args.limits.now.idle } in
    let sent = sent_by g.O.Origin.source g.O.Origin.orders g.O.Origin.fit in
    let h = moved_still sent g.N.Run.start bounds (g.L.Lane.state c.args.lane.now) c.args.pass.now (g.L.Lane.state c.turns.lane) c.turns.mover c.turns.pass c.awaits_more.new.pass c.turns.invariant.moved c.awaits_more.ensures.pass c.if-not-awaits_more.ensures.noted in
    let r = moved_stopped sent g.N.Run.start bounds (g.L.Lane.state c.args.lane.now) c.args.pass.now c.requires.fresh (g.L.Lane.state c.turns.lane) (g.L.Lane.state c.turn.new.lane) c.turns.mover c.turn.new.self c.awaits_more.new.pass c.turn.new.pass h
    (rw c.in-Err-Stopped.field-0-is at (c.in-Err-Stopped.ensures.turned h.inputs h.awaits.stands h.awaits.channels)) in
    record { pass = r.0; moved = r.1 }

pub returns-then-not-awaits_more : goal.returns-then-not-awaits_more
returns-then-not-awaits_more g c =
    let bounds : Bounds = record { lane = c.args.pass.now.lane; shift = c.args.limits.now.shift; idle = c.args.limits.now.idle } in
    let sent = sent_by g.O.Origin.source g.O.Origin.orders g.O.Origin.fit in
    let r = moved_ended sent g.N.Run.start bounds (g.L.Lane.state c.args.lane.now) c.args.pass.now c.requires.fresh (g.L.Lane.state c.turns.lane) c.turns.mover c.turns.pass c.turns.invariant.moved c.awaits_more.new.pass c.awaits_more.ensures.pass c.if-not-awaits_more.ensures.noted in
    record { pass = r.0; moved = r.1 }
