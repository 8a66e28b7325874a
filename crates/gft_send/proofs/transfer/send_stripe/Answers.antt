use Rattle.std.proofs.Common.{◌≡◌, List, length, sym, ap, ◌∙◌, subst, true, drop}
use Rattle.std.specs.Prelude.{All}
use Rattle.gft_send.specs.Stripes.{SendsLane}
use Rattle.gft_send.proofs.TransferLemmas.{written_back}
use Rattle.gft_send.proofs.transfer.send_stripe.Goals as goal

pub send_lane-sent-requires-clause-channels : goal.send_lane-sent-requires-clause-channels
send_lane-sent-requires-clause-channels g c κs within =
    ap (λ (l : List g.row.X.Denot). length l) c.as_mut_slice-channels.ensures.value ∙ sym c.args.stripe.now.channels.ok.0 ∙ c.requires.ready.channels

pub send_lane-sent-requires-clause-is_open : goal.send_lane-sent-requires-clause-is_open
send_lane-sent-requires-clause-is_open g c κs within =
    subst (λ (l : List g.row.X.Denot). All (λ out. (g.X.OutLane.state out).is_open ≡ true) l) (sym c.as_mut_slice-channels.ensures.value) c.requires.ready.is_open

pub returns : goal.returns
returns g c =
    let stripe = c.args.stripe.now in
    let new = c.send_lane-sent.new.channels in
    let v = c.as_mut_slice-channels.ensures.value in
    let size : length new ≡ length stripe.channels.items = c.send_lane-sent.auto.channels ∙ ap (λ (l : List g.row.X.Denot). length l) v in
    let back = written_back stripe.channels.len new (drop (length new) stripe.channels.items) (stripe.channels.ok.0 ∙ sym size) in
    subst (λ (l : List g.row.X.Denot). SendsLane {X = g.row.X.Denot} g.X.OutLane.state c.args.plan.now c.args.done.now.ranges c.args.number c.send_lane-sent.result (g.D.Drive.state stripe.drive) (g.D.Drive.state c.send_lane-sent.new.drive) stripe.channels.items l) (sym back)
    (subst (λ (l : List g.row.X.Denot). SendsLane {X = g.row.X.Denot} g.X.OutLane.state c.args.plan.now c.args.done.now.ranges c.args.number c.send_lane-sent.result (g.D.Drive.state stripe.drive) (g.D.Drive.state c.send_lane-sent.new.drive) l new) v c.send_lane-sent.ensures)
