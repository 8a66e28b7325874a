use Rattle.std.proofs.Common.{◌<◌, ◌∙◌, refl, arith, length}
use Rattle.std.specs.Prelude.{slice_index_or}
use Rattle.std.proofs.lemmas.List.{get_or_default}
use Rattle.gft_send.specs.declared.transfer.Stripe.{Stripe}
use Rattle.gft_dial.proofs.DialLemmas.{drives_set, fresh_more, opened_cut, opened_more, opened_none}
use Rattle.gft_dial.proofs.dialling.dial_all.Goals as goal

pub loop-number-init : goal.loop-number-init
loop-number-init g c = opened_none g.K.Out.OutLane.state c.args.channels c.args.places.now (g.K.Link.state c.args.link.now) c.args.stripes.now c.requires.unopened

pub loop-number-preserved : goal.loop-number-preserved
loop-number-preserved g c =
    let now = c.loop-number.stripes in
    let i = c.loop-number.number in
    let d = c.index-stripes-number.result in
    let test = c.loop-number-test.true in
    let inside : i < length now = omega (arith, test, c.loop-number.auto.stripes, c.requires.count) in
    let was = slice_index_or now i d in
    let stripe : Stripe g.row.D.Denot g.row.K-Out.Denot = record { drive = was.drive; channels = c.dial_channels.new.outs; sent = was.sent } in
    opened_more g.K.Out.OutLane.state c.args.channels c.args.places.now (g.K.Link.state c.args.link.now) (g.K.Link.state c.loop-number.link) (g.K.Link.state c.dial_channels.new.link) c.args.stripes.now now i stripe d _ c.loop-number.invariant
    (record { within = inside; named = test; is_place = λ e. get_or_default c.args.places.now i _ e test; drive = refl; sent = refl; len = c.dial_channels.new.outs.ok.0; fresh = c.dial_channels.ensures.fresh })
    c.in-Ok.ensures.dials

pub returns-in-Err-clause-drives : goal.returns-in-Err-clause-drives
returns-in-Err-clause-drives g c =
    let now = c.loop-number.stripes in
    let i = c.loop-number.number in
    let d = c.index-stripes-number.result in
    let inside : i < length now = omega (arith, c.loop-number-test.true, c.loop-number.auto.stripes, c.requires.count) in
    let was = slice_index_or now i d in
    let stripe : Stripe g.row.D.Denot g.row.K-Out.Denot = record { drive = was.drive; channels = c.dial_channels.new.outs; sent = was.sent } in
    drives_set now i stripe d inside refl ∙ c.loop-number.invariant.drives

pub returns-in-Err-clause-fresh : goal.returns-in-Err-clause-fresh
returns-in-Err-clause-fresh g c =
    let now = c.loop-number.stripes in
    let i = c.loop-number.number in
    let d = c.index-stripes-number.result in
    let test = c.loop-number-test.true in
    let inside : i < length now = omega (arith, test, c.loop-number.auto.stripes, c.requires.count) in
    let was = slice_index_or now i d in
    let stripe : Stripe g.row.D.Denot g.row.K-Out.Denot = record { drive = was.drive; channels = c.dial_channels.new.outs; sent = was.sent } in
    fresh_more g.K.Out.OutLane.state c.args.channels c.args.places.now (g.K.Link.state c.args.link.now) (g.K.Link.state c.loop-number.link) c.args.stripes.now now i stripe c.loop-number.invariant inside c.dial_channels.ensures.fresh

pub returns-in-Err-clause-dials : goal.returns-in-Err-clause-dials
returns-in-Err-clause-dials g c =
    let now = c.loop-number.stripes in
    let i = c.loop-number.number in
    let d = c.index-stripes-number.result in
    let test = c.loop-number-test.true in
    let inside : i < length now = omega (arith, test, c.loop-number.auto.stripes, c.requires.count) in
    let was = slice_index_or now i d in
    let stripe : Stripe g.row.D.Denot g.row.K-Out.Denot = record { drive = was.drive; channels = c.dial_channels.new.outs; sent = was.sent } in
    opened_cut g.K.Out.OutLane.state c.args.channels c.args.places.now (g.K.Link.state c.args.link.now) (g.K.Link.state c.loop-number.link) (g.K.Link.state c.dial_channels.new.link) c.args.stripes.now now i stripe d _ c.loop-number.invariant
    (record { within = inside; named = test; is_place = λ e. get_or_default c.args.places.now i _ e test; drive = refl; sent = refl; len = c.dial_channels.new.outs.ok.0; fresh = c.dial_channels.ensures.fresh })
    c.in-Err.ensures.dials
