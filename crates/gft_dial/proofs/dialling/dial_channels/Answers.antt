use Rattle.std.proofs.Common.{◌<◌, ◌∷◌, [], sym, subst, arith, length}
use Rattle.std.specs.Prelude.{All}
use Rattle.std.proofs.lemmas.List.Elements.{All-append, All-cons, All-nil}
use Rattle.gft_outside.specs.Words.{IsNewOutLane}
use Rattle.gft_dial.proofs.DialLemmas.{dials_next, stops_next}
use Rattle.gft_dial.proofs.dialling.dial_channels.Goals as goal

pub each-preserved : goal.each-preserved
each-preserved g c =
    let so_far = c.each.invariant in
    let pushed = c.push_reserved.ensures in
    let xs = c.each.outs.items in
    let out = c.in-Ok.out in
    let P = λ (x : g.row.K-Out.Denot). IsNewOutLane (g.K.Out.OutLane.state x) in
    record {
      within = omega (arith, pushed.len, c.each-test.true, c.from.ensures, c.len.ensures);
      room = omega (arith, pushed.capacity, so_far.room);
      fresh = subst (All P) (sym pushed.items) (All-append P xs (out ∷ []) so_far.fresh (All-cons P out [] c.in-Ok.ensures.new (All-nil P)));
      dialled = dials_next _ _ _ c.args.at.now xs _ out pushed.items so_far.dialled c.in-Ok.ensures.out;
    }

pub returns-in-Err-clause-dials : goal.returns-in-Err-clause-dials
returns-in-Err-clause-dials g c =
    let lt : length c.each.outs.items < c.args.channels = omega (arith, c.each-test.true, c.from.ensures, c.len.ensures, c.each.outs.ok.0) in
    stops_next _ _ _ c.args.at.now c.args.channels c.each.outs.items lt c.each.invariant.dialled c.in-Err.ensures.refused
