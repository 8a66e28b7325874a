use Rattle.std.proofs.Common.{◌∷◌, [], ◌++◌, sym, ap, ◌∙◌, arith, append_assoc, length, length-append}
use Rattle.gft_session.proofs.PortLemmas.{returns_more}
use Rattle.gft_session.proofs.ports.give_back.Goals as goal

pub each-preserved : goal.each-preserved
each-preserved g c =
    let so_far = c.each.invariant in
    let steps = c.in-Some.ensures.steps in
    let lane = c.in-Some.lane in record {
      can_next = tt;
      is_finite = tt;
      split = so_far.split ∙ ap (λ xs. c.each.yielded ++ xs) steps.0 ∙ sym (append_assoc c.each.yielded (lane ∷ []) _);
      len = omega (arith, steps.1, so_far.len, ap length steps.0);
      returned = returns_more g.K.In.Lane.state _ _ _ c.each.yielded lane so_far.returned c.back_in.ensures;
      count = omega (arith, so_far.count, c.back_in.ensures.handed_out, length-append c.each.yielded (lane ∷ []));
      room = omega (arith, so_far.room, ap length steps.0, c.back_in.ensures.handed_out);
    }
