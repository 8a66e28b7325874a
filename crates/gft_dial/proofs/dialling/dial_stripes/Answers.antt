use Rattle.std.proofs.Common.{◌≡◌, List, ◌∙◌, sym, ap, drop, length}
use Rattle.gft_send.specs.declared.transfer.Stripe.{Stripe}
use Rattle.gft_dial.specs.Dials.{each_times, outs_of}
use Rattle.gft_dial.proofs.DialLemmas.{failed_after, returned_same, written_back}
use Rattle.gft_dial.proofs.dialling.dial_stripes.Goals as goal

pub returns-in-Err-clause-refused : goal.returns-in-Err-clause-refused
returns-in-Err-clause-refused g c =
    let stripes = c.in-Ok.stripes in
    let new = c.dial_all.new.stripes in
    let size : length new ≡ length stripes.items = c.dial_all.auto.stripes ∙ ap (λ (l : List (Stripe g.row.D.Denot g.row.K-Out.Denot)). length l) c.as_mut_slice.ensures.value in
    let back = written_back stripes.len new (drop (length new) stripes.items) (stripes.ok.0 ∙ sym size) in
    failed_after g.K.Out.OutLane.state (each_times c.args.channels c.args.places.now) (g.K.Link.state c.args.link.now) (g.K.Link.state c.dial_all.new.link) (g.K.Link.state c.hang_up.new.link) (outs_of new)
    c.in-Err.ensures.dials c.dial_all.ensures.fresh (returned_same g.K.Out.OutLane.state _ _ _ new back c.hang_up.ensures)
