use Rattle.std.proofs.Common.{◌∷◌, [], ◌++◌, sym, ap, ◌∙◌, arith, append_assoc, length}
use Rattle.gft_dial.proofs.Lemmas.{returns_join, returns_one}
use Rattle.gft_dial.proofs.hanging_up.give_back.Goals as goal

pub each-preserved : goal.each-preserved
each-preserved g c =
    let so_far = c.each.invariant in
    let steps = c.in-Some.ensures.steps in
    let out = c.in-Some.out in record {
      can_next = tt;
      is_finite = tt;
      split = so_far.split ∙ ap (λ xs. c.each.yielded ++ xs) steps.0 ∙ sym (append_assoc c.each.yielded (out ∷ []) _);
      len = omega (arith, steps.1, so_far.len, ap length steps.0);
      returned = returns_join g.K.Out.OutLane.state _ _ _ c.each.yielded (out ∷ []) so_far.returned (returns_one g.K.Out.OutLane.state _ _ out c.back_out.ensures);
      room = omega (arith, so_far.room, ap length steps.0, c.back_out.ensures.handed_out);
    }
