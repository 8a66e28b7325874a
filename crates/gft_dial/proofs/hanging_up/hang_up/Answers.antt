use Rattle.std.proofs.Common.{◌∷◌, [], ◌++◌, sym, ap, ◌∙◌, arith, append_assoc, length}
use Rattle.gft_dial.proofs.DialLemmas.{outs_next, returns_stripe}
use Rattle.gft_dial.proofs.hanging_up.hang_up.Goals as goal

pub give_back-requires-after_bounds : goal.give_back-requires-after_bounds
give_back-requires-after_bounds g c κs within =
    let steps = c.in-Some.ensures.steps in
    omega (arith, c.each.invariant.room, outs_next _ _ c.in-Some.stripe steps.0)

pub each-preserved : goal.each-preserved
each-preserved g c =
    let so_far = c.each.invariant in
    let steps = c.in-Some.ensures.steps in
    let stripe = c.in-Some.stripe in
    record {
      can_next = tt;
      is_finite = tt;
      split = so_far.split ∙ ap (λ xs. c.each.yielded ++ xs) steps.0 ∙ sym (append_assoc c.each.yielded (stripe ∷ []) _);
      len = omega (arith, steps.1, so_far.len, ap length steps.0);
      returned = returns_stripe g.K.Out.OutLane.state _ _ _ c.each.yielded stripe so_far.returned c.give_back.ensures;
      room = omega (arith, so_far.room, outs_next _ _ stripe steps.0, c.give_back.ensures.handed_out);
    }
