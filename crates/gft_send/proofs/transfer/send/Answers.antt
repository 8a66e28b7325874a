use Rattle.std.proofs.Common.{◌≡◌, ◌≤◌, ℕ, length, arith, ap, ◌∙◌}
use Rattle.std.specs.Prelude.{sum_by}
use Rattle.gft_drive.specs.Words.{sum_below}
use Rattle.gft_send.specs.Stripes.{stripe_bytes}
use Rattle.gft_send.proofs.TransferLemmas.{EachSent, one_file, sum_answer, told_of, told_within}
use Rattle.gft_send.proofs.transfer.send.Goals as goal

pub total_sent-requires-clause-fits : goal.total_sent-requires-clause-fits
total_sent-requires-clause-fits g c κs within =
    let new = c.send_stripes.new.stripes in
    let f = stripe_bytes c.args.plan.now c.args.done.now.ranges in
    let size = c.send_stripes.auto.stripes in
    let each : EachSent {D = g.row.D.Denot} {X = g.row.X.Denot} f new = λ i d lt. (c.send_stripes.ensures.sent i d (omega arith)).count in
    let told : sum_by told_of new ≤ sum_below f (length new) = told_within new f each in
    let many : length new ≡ c.args.plan.now.shape.stripes = size ∙ c.requires.stripes in
    let e : sum_below f (length new) ≡ sum_below f c.args.plan.now.shape.stripes = ap (λ (n : ℕ). sum_below f n) many in
    omega (arith, told, e, c.send_stripes.ensures.fits)

pub returns-clause-count : goal.returns-clause-count
returns-clause-count g c =
    let new = c.send_stripes.new.stripes in
    let size = c.send_stripes.auto.stripes in
    sum_answer {D = g.row.D.Denot} {X = g.row.X.Denot} new (stripe_bytes c.args.plan.now c.args.done.now.ranges) c.total_sent.result c.args.plan.now.shape.stripes c.total_sent.ensures
    (λ i d lt. (c.send_stripes.ensures.sent i d (omega arith)).count) (size ∙ c.requires.stripes)

pub returns-clause-one_file : goal.returns-clause-one_file
returns-clause-one_file g c = one_file {D = g.row.D.Denot} {X = g.row.X.Denot} g.D.Drive.state g.X.OutLane.state c.args.plan.now c.args.done.now.ranges c.args.stripes.now c.send_stripes.new.stripes c.send_stripes.ensures.sent
