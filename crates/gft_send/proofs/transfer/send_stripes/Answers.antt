use Rattle.std.proofs.Common.{arith, rules, sym, subst}
use Rattle.gft_send.specs.declared.transfer.Stripe.{Stripe}
use Rattle.gft_send.specs.Transfers.{IsReadyStripe}
use Rattle.gft_send.proofs.CountLemmas.{stripes_within}
use Rattle.gft_send.proofs.transfer.send_stripes.Goals as goal

pub for_each_mut-requires-clause-accepts : goal.for_each_mut-requires-clause-accepts
for_each_mut-requires-clause-accepts g c κs within = λ i p lt is.
    ((c.requires.plan, (let e = c.requires.stripes in omega arith), subst (λ (s : Stripe g.row.D.Denot g.row.X.Denot). IsReadyStripe {D = g.row.D.Denot} {X = g.row.X.Denot} g.D.Drive.state g.X.OutLane.state c.args.plan s) (sym is) (c.requires.ready i p.now lt)), search rules)

pub returns-clause-fits : goal.returns-clause-fits
returns-clause-fits g c = let all = stripes_within c.args.plan c.args.done.now.ranges in omega (arith, all)
