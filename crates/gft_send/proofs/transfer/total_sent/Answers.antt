use Rattle.std.proofs.Common.{◌≡◌, ◌+◌, ℕ, drop, arith, sym, ap, ◌∙◌}
use Rattle.std.specs.Prelude.{Err, Ok, Result, slice_index_or}
use Rattle.gft_pass.specs.declared.Cause.{Cause}
use Rattle.gft_send.specs.declared.transfer.Stripe.{Stripe}
use Rattle.gft_send.specs.Transfers.{add_sent, all_sent, bytes_told}
use Rattle.gft_send.proofs.TransferLemmas.{add_more, add_none, sent_more, sent_none_left, told_more}
use Rattle.gft_send.proofs.transfer.total_sent.Goals as goal

pub loop-stripe-init : goal.loop-stripe-init
loop-stripe-init g c = record {
  so_far = sym (add_none (all_sent c.args.stripes.now));
  counted = omega arith;
}

pub overflow_add-total : goal.overflow_add-total
overflow_add-total g c =
    let xs = c.args.stripes.now in
    let i = c.loop-stripe.stripe-index in
    let x = c.stripe-item.result in
    let told = told_more xs i x c.loop-stripe-test.true in
    let e : bytes_told (slice_index_or xs i x).sent ≡ c.in-Ok.count = ap (λ (s : Stripe g.row.D.Denot g.row.X.Denot). bytes_told s.sent) (sym c.stripe-item.is) ∙ ap bytes_told c.in-Ok.is in
    omega (arith, told, e, c.loop-stripe.invariant.counted, c.requires.fits)

pub returns-in-Err : goal.returns-in-Err
returns-in-Err g c =
    let xs = c.args.stripes.now in
    let i = c.loop-stripe.stripe-index in
    let x = c.stripe-item.result in
    let later = all_sent (drop (i + 1) xs) in
    let e : (slice_index_or xs i x).sent ≡ Err c.in-Err.cause = ap (λ (s : Stripe g.row.D.Denot g.row.X.Denot). s.sent) (sym c.stripe-item.is) ∙ c.in-Err.is in
    sym (c.loop-stripe.invariant.so_far ∙ ap (λ (r : Result ℕ Cause). add_sent (Ok c.loop-stripe.total) r) (sent_more xs i x c.loop-stripe-test.true ∙ ap (λ (r : Result ℕ Cause). add_sent r later) e))

pub loop-stripe-preserved : goal.loop-stripe-preserved
loop-stripe-preserved g c =
    let xs = c.args.stripes.now in
    let i = c.loop-stripe.stripe-index in
    let x = c.stripe-item.result in
    let later = all_sent (drop (i + 1) xs) in
    let told = told_more xs i x c.loop-stripe-test.true in
    let is : (slice_index_or xs i x).sent ≡ Ok c.in-Ok.count = ap (λ (s : Stripe g.row.D.Denot g.row.X.Denot). s.sent) (sym c.stripe-item.is) ∙ c.in-Ok.is in
    let e : bytes_told (slice_index_or xs i x).sent ≡ c.in-Ok.count = ap bytes_told is in
    record {
      so_far = c.loop-stripe.invariant.so_far ∙ ap (λ (r : Result ℕ Cause). add_sent (Ok c.loop-stripe.total) r) (sent_more xs i x c.loop-stripe-test.true ∙ ap (λ (r : Result ℕ Cause). add_sent r later) is) ∙ add_more c.loop-stripe.total c.in-Ok.count later;
      counted = omega (arith, told, e, c.loop-stripe.invariant.counted);
    }

pub returns : goal.returns
returns g c = sym (c.loop-stripe.invariant.so_far ∙ sent_none_left c.args.stripes.now c.loop-stripe.stripe-index c.loop-stripe.total c.loop-stripe-test.false)
