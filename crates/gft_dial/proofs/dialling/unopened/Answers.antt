use Rattle.std.proofs.Common.{◌∷◌, [], ◌++◌, sym, ap, ◌∙◌, arith, append_assoc, length, refl, subst, map, Ok}
use Rattle.std.specs.Prelude.{All}
use Rattle.std.proofs.lemmas.List.{map-append}
use Rattle.std.proofs.lemmas.List.Elements.{All-append, All-cons, All-nil}
use Rattle.gft_send.specs.declared.transfer.Stripe.{Stripe}
use Rattle.gft_dial.specs.Stripes.{IsUnopened}
use Rattle.gft_dial.proofs.dialling.unopened.Goals as goal

pub each-preserved : goal.each-preserved
each-preserved g c =
    let so_far = c.each.invariant in
    let steps = c.in-Some.ensures.steps in
    let pushed = c.push_reserved.ensures in
    let drive = c.in-Some.drive in
    let xs = c.each.stripes.items in
    let one : Stripe g.row.D.Denot g.row.X.Denot = record { drive = drive; channels = c.in_ok-room.room; sent = Ok 0 } in
    let P = λ (s : Stripe g.row.D.Denot g.row.X.Denot). IsUnopened c.args.channels s in
    let here : P one = record { none = c.in_ok-room.ensures.items; room = omega (arith, c.in_ok-room.ensures.exact, c.from.ensures); unsent = refl } in
    record {
      can_next = tt;
      is_finite = tt;
      split = so_far.split ∙ ap (λ l. c.each.yielded ++ l) steps.0 ∙ sym (append_assoc c.each.yielded (drive ∷ []) _);
      len = omega (arith, steps.1, so_far.len, ap length steps.0);
      drives = ap (λ l. map (λ (s : Stripe g.row.D.Denot g.row.X.Denot). s.drive) l) pushed.items ∙ map-append (λ (s : Stripe g.row.D.Denot g.row.X.Denot). s.drive) xs (one ∷ []) ∙ ap (λ l. l ++ drive ∷ []) so_far.drives;
      unopened = subst (All P) (sym pushed.items) (All-append P xs (one ∷ []) so_far.unopened (All-cons P one [] here (All-nil P)));
      room = omega (arith, pushed.len, pushed.capacity, so_far.room, ap length steps.0);
    }
