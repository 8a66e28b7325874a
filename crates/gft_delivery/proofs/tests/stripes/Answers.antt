use Rattle.std.proofs.Common.{◌∷◌, [], length, arith, subst, sym}
use Rattle.std.specs.Prelude.{All}
use Rattle.std.proofs.lemmas.List.Elements.{All-append, All-cons, All-nil}
use Rattle.gft_delivery.specs.Rows.{HasFile}
use Rattle.gft_delivery.proofs.tests.stripes.Goals as goal

pub stripes-preserved : goal.stripes-preserved
stripes-preserved c =
    let P = HasFile (length c.args.bytes.now) c.args.shape.parallel in
    let one = c.in_ok-stripe.field-0 in
    let behind = All-cons P one [] c.in_ok-stripe.ensures (All-nil P) in
    (omega (arith, c.in_ok-push.ensures.len, c.stripes-test.true, c.from.ensures, c.len.ensures, c.stripes.invariant.0), subst (All P) (sym c.in_ok-push.ensures.items) (All-append P c.stripes.stripes.items (one ∷ []) c.stripes.invariant.1 behind))
