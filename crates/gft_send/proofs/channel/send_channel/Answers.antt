use Rattle.std.proofs.Common.{ℕ, List, arith, refl, sym, subst, ap, ◌∙◌}
use Rattle.std.specs.Prelude.{Ok, Err}
use Rattle.gft_range.specs.declared.Range.{Range}
use Rattle.gft_range.specs.Words.{HasOffset}
use Rattle.gft_layout.specs.Words.{IsAscending}
use Rattle.gft_send.specs.Sending.{HasRest, MustHave, Sends}
use Rattle.gft_send.specs.Streams.{data_blocks, ending_of, sent_stream}
use Rattle.gft_send.specs.Stripes.{bytes_in, channel_plan}
use Rattle.gft_send.proofs.CountLemmas.{channel_within}
use Rattle.gft_send.proofs.PlanLemmas.{plan_ascends, plan_there}
use Rattle.gft_send.proofs.SendLemmas.{sends_cut, sends_more, sends_stop}
use Rattle.gft_send.proofs.channel.send_channel.Goals as goal

pub send_blocks-requires-clause-ascending : goal.send_blocks-requires-clause-ascending
send_blocks-requires-clause-ascending g c κs within =
    subst (λ (l : List Range). IsAscending l) (sym c.plan-ranges.ensures) (plan_ascends c.args.plan c.args.done.now.ranges c.args.stripe c.args.channel)

pub send_blocks-requires-clause-fits : goal.send_blocks-requires-clause-fits
send_blocks-requires-clause-fits g c κs within =
    let e = ap bytes_in c.plan-ranges.ensures in
    let h = channel_within c.args.plan c.args.done.now.ranges c.args.stripe c.args.channel c.requires.owner.channel in
    omega (arith, e, h)

pub send_blocks-requires-clause-there : goal.send_blocks-requires-clause-there
send_blocks-requires-clause-there g c κs within =
    subst (λ (l : List Range). MustHave (g.D.Drive.state c.args.drive.now).contents (HasOffset l)) (sym c.plan-ranges.ensures) (plan_there c.args.plan c.args.done.now.ranges c.args.stripe (g.D.Drive.state c.args.drive.now).contents c.args.channel c.requires.there)

pub returns-in-Err-clause-sends : goal.returns-in-Err-clause-sends
returns-in-Err-clause-sends g c =
    let s = g.D.Drive.state in
    let o = g.X.OutLane.state in
    let p = channel_plan c.args.plan c.args.done.now.ranges c.args.stripe c.args.channel in
    let cause = c.in-Err.cause in
    let sends = subst (λ (l : List Range). Sends {T = ℕ} (HasOffset l) (HasRest l) (λ file. data_blocks file l) (Err cause) (s c.args.drive.now) (s c.send_blocks.new.drive) (o c.args.out.now) (o c.send_blocks.new.out)) c.plan-ranges.ensures (rw c.in-Err.is at c.send_blocks.ensures.sends) in
    sends_stop {T = ℕ} {U = ℕ} (HasOffset p) (HasOffset p) (HasRest p) (HasRest p) (λ file. data_blocks file p) (λ file. ending_of c.args.plan.shape c.args.stripe c.args.channel) (λ file. sent_stream file c.args.plan c.args.done.now.ranges c.args.stripe c.args.channel)
    (s c.args.drive.now) (s c.send_blocks.new.drive) (o c.args.out.now) (o c.send_blocks.new.out) cause sends (λ x h. h) (λ r h. h) (λ f. refl)

pub returns-in-Ok-send_ending-clause-count : goal.returns-in-Ok-send_ending-clause-count
returns-in-Ok-send_ending-clause-count g c = c.in-Ok.ensures.count ∙ ap bytes_in c.plan-ranges.ensures

pub returns-in-Ok-send_ending-clause-sends : goal.returns-in-Ok-send_ending-clause-sends
returns-in-Ok-send_ending-clause-sends g c =
    let s = g.D.Drive.state in
    let o = g.X.OutLane.state in
    let laws = (g.met.D.Drive g.world.𝓛 g.world.𝓜 g.world.𝓡 ((λ s x. x), (λ x. x), (λ x. x), λ x. x)).lawful in
    let p = channel_plan c.args.plan c.args.done.now.ranges c.args.stripe c.args.channel in
    let sends = subst (λ (l : List Range). Sends {T = ℕ} (HasOffset l) (HasRest l) (λ file. data_blocks file l) (Ok c.in-Ok.sent) (s c.args.drive.now) (s c.send_blocks.new.drive) (o c.args.out.now) (o c.send_blocks.new.out)) c.plan-ranges.ensures (rw c.in-Ok.is at c.send_blocks.ensures.sends) in
    sends_more {T = ℕ} {U = ℕ} (HasOffset p) (HasRest p) (λ file. data_blocks file p) (λ file. sent_stream file c.args.plan c.args.done.now.ranges c.args.stripe c.args.channel) (ending_of c.args.plan.shape c.args.stripe c.args.channel)
    (s c.args.drive.now) (s c.send_blocks.new.drive) (o c.args.out.now) (o c.send_blocks.new.out) (o c.send_ending.new.out) c.in-Ok.sent c.in-Ok.sent (laws c.send_blocks.new.drive) sends
    c.in-Ok-send_ending.ensures.goes c.in-Ok-send_ending.ensures.is_open c.in-Ok-send_ending.ensures.cause.kept (λ f. refl)

pub returns-in-Err-send_ending-clause-sends : goal.returns-in-Err-send_ending-clause-sends
returns-in-Err-send_ending-clause-sends g c =
    let s = g.D.Drive.state in
    let o = g.X.OutLane.state in
    let laws = (g.met.D.Drive g.world.𝓛 g.world.𝓜 g.world.𝓡 ((λ s x. x), (λ x. x), (λ x. x), λ x. x)).lawful in
    let p = channel_plan c.args.plan c.args.done.now.ranges c.args.stripe c.args.channel in
    let sends = subst (λ (l : List Range). Sends {T = ℕ} (HasOffset l) (HasRest l) (λ file. data_blocks file l) (Ok c.in-Ok.sent) (s c.args.drive.now) (s c.send_blocks.new.drive) (o c.args.out.now) (o c.send_blocks.new.out)) c.plan-ranges.ensures (rw c.in-Ok.is at c.send_blocks.ensures.sends) in
    sends_cut {T = ℕ} {U = ℕ} (HasOffset p) (HasRest p) (λ file. data_blocks file p) (λ file. sent_stream file c.args.plan c.args.done.now.ranges c.args.stripe c.args.channel) (ending_of c.args.plan.shape c.args.stripe c.args.channel)
    (s c.args.drive.now) (s c.send_blocks.new.drive) (o c.args.out.now) (o c.send_blocks.new.out) (o c.send_ending.new.out) c.in-Ok.sent (laws c.send_blocks.new.drive) sends
    c.in-Err-send_ending.ensures.goes c.in-Err-send_ending.ensures.cause.later c.in-Err-send_ending.ensures.cause.failed (λ f. refl)
