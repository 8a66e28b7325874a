use Rattle.std.proofs.Common.{◌≡◌, ◌+◌, ◌<◌, ℕ, length, get_or, set, arith, refl, sym, subst, ap, ◌∙◌}
use Rattle.std.specs.Prelude.{Err, Option}
use Rattle.gft_range.specs.Words.{InRange}
use Rattle.gft_drive.specs.Words.{Image, sum_below}
use Rattle.gft_send.specs.Sending.{MustHave}
use Rattle.gft_send.specs.Stripes.{SendsLane, bytes_in, channel_plan}
use Rattle.gft_send.proofs.CountLemmas.{so_far_more, so_far_within}
use Rattle.gft_send.proofs.LaneLemmas.{HasSent, elem_here, open_here, sent_all, sent_cut, sent_more, sent_none}
use Rattle.gft_send.proofs.lane.send_channels.Goals as goal

pub loop-channel-init : goal.loop-channel-init
loop-channel-init g c = record {
  room = c.requires.room;
  sent = sent_none g.X.OutLane.state c.args.plan c.args.done.now.ranges c.args.stripe (g.D.Drive.state c.args.drive.now) c.args.channels.now c.requires.there;
  total = refl;
}

pub send_channel-requires-clause-there : goal.send_channel-requires-clause-there
send_channel-requires-clause-there g c κs within =
    subst (λ (o : Option Image). MustHave o (InRange c.args.plan.region)) (sym c.loop-channel.invariant.sent.unchanged.read) c.requires.there

pub send_channel-requires-clause-is_open : goal.send_channel-requires-clause-is_open
send_channel-requires-clause-is_open g c κs within =
    let test = c.loop-channel-test.true in
    let many = c.requires.channels in
    let size = c.loop-channel.auto.channels in
    open_here g.X.OutLane.state c.args.plan c.args.done.now.ranges c.args.stripe (g.D.Drive.state c.args.drive.now) (g.D.Drive.state c.loop-channel.drive) c.loop-channel.channel c.from.result c.args.channels.now c.loop-channel.channels c.index-channels-from.result
    c.loop-channel.invariant.sent c.requires.is_open c.from.ensures (omega arith) size

pub overflow_add-sent : goal.overflow_add-sent
overflow_add-sent g c =
    let h = so_far_within c.args.plan c.args.done.now.ranges c.args.stripe c.loop-channel.channel c.loop-channel.sent c.in-Ok.count c.loop-channel-test.true c.loop-channel.invariant.total c.in-Ok.ensures.count in
    omega (arith, h)

pub returns-in-Err : goal.returns-in-Err
returns-in-Err g c =
    let s = g.D.Drive.state in
    let o = g.X.OutLane.state in
    let laws = (g.met.D.Drive g.world.𝓛 g.world.𝓜 g.world.𝓡 ((λ s x. x), (λ x. x), (λ x. x), λ x. x)).lawful in
    let test = c.loop-channel-test.true in
    let many = c.requires.channels in
    let size = c.loop-channel.auto.channels in
    let now = c.loop-channel.channels in
    let i = c.loop-channel.channel in
    let inside : i < length now = omega arith in
    subst (λ (k : ℕ). SendsLane {X = g.row.X.Denot} o c.args.plan c.args.done.now.ranges c.args.stripe (Err c.in-Err.cause) (s c.args.drive.now) (s c.send_channel.new.drive) c.args.channels.now (set now k c.send_channel.new.out)) (sym c.from.ensures)
    (sent_cut o c.args.plan c.args.done.now.ranges c.args.stripe (s c.args.drive.now) (s c.loop-channel.drive) (s c.send_channel.new.drive) i c.args.channels.now now (get_or now c.from.result c.index-channels-from.result) c.send_channel.new.out
    c.loop-channel.invariant.sent inside size (λ d. elem_here now i c.from.result c.index-channels-from.result d c.from.ensures inside) c.in-Err.cause (laws c.loop-channel.drive) (laws c.send_channel.new.drive) test (rw c.in-Err.is at c.send_channel.ensures.sends))

pub loop-channel-preserved : goal.loop-channel-preserved
loop-channel-preserved g c =
    let s = g.D.Drive.state in
    let o = g.X.OutLane.state in
    let laws = (g.met.D.Drive g.world.𝓛 g.world.𝓜 g.world.𝓡 ((λ s x. x), (λ x. x), (λ x. x), λ x. x)).lawful in
    let test = c.loop-channel-test.true in
    let many = c.requires.channels in
    let size = c.loop-channel.auto.channels in
    let now = c.loop-channel.channels in
    let i = c.loop-channel.channel in
    let inside : i < length now = omega arith in
    record {
      room = omega (arith, c.send_channel.auto.buf, c.loop-channel.invariant.room);
      sent = subst (λ (k : ℕ). HasSent {X = g.row.X.Denot} o c.args.plan c.args.done.now.ranges c.args.stripe (s c.args.drive.now) (s c.send_channel.new.drive) (i + 1) c.args.channels.now (set now k c.send_channel.new.out)) (sym c.from.ensures)
          (sent_more o c.args.plan c.args.done.now.ranges c.args.stripe (s c.args.drive.now) (s c.loop-channel.drive) (s c.send_channel.new.drive) i c.args.channels.now now (get_or now c.from.result c.index-channels-from.result) c.send_channel.new.out
          c.loop-channel.invariant.sent inside size (λ d. elem_here now i c.from.result c.index-channels-from.result d c.from.ensures inside) c.in-Ok.count (laws c.loop-channel.drive) (laws c.send_channel.new.drive) (rw c.in-Ok.is at c.send_channel.ensures.sends));
      total = so_far_more c.args.plan c.args.done.now.ranges c.args.stripe i c.loop-channel.sent c.in-Ok.count c.loop-channel.invariant.total c.in-Ok.ensures.count;
    }

pub returns : goal.returns
returns g c =
    let all : c.loop-channel.channel ≡ c.args.plan.shape.parallel = omega (arith, c.loop-channel-test.false, c.loop-channel.auto.channel-end) in
    let many = c.requires.channels in
    let some = c.requires.plan.shape.a_channel in
    sent_all g.X.OutLane.state c.args.plan c.args.done.now.ranges c.args.stripe (g.D.Drive.state c.args.drive.now) (g.D.Drive.state c.loop-channel.drive) c.loop-channel.channel c.args.channels.now c.loop-channel.channels
    c.loop-channel.invariant.sent (omega arith) c.loop-channel.auto.channels (omega arith) c.loop-channel.sent
    (c.loop-channel.invariant.total ∙ ap (λ (n : ℕ). sum_below (λ channel. bytes_in (channel_plan c.args.plan c.args.done.now.ranges c.args.stripe channel)) n) all)
