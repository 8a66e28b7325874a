use Rattle.std.proofs.Common.{◌∙◌}
use Rattle.gft_layout.specs.declared.Layout.TheVariants.{Blocked}
use Rattle.gft_drive.specs.declared.MemoryDrive.{MemoryDrive}
use Rattle.gft_drive.specs.Words.{image_of}
use Rattle.gft_drive.specs.Replay.{state_after}
use Rattle.gft_outside.specs.declared.MemoryOutLane.{MemoryOutLane}
use Rattle.gft_outside.specs.Words.{out_lane_state}
use Rattle.gft_send.specs.declared.plan.SendPlan.{SendPlan}
use Rattle.gft_send.specs.declared.transfer.Stripe.{Stripe}
use Rattle.gft_send.specs.Transfers.{IsReadyStripe}
use Rattle.gft_send.proofs.TestLemmas.{both, has_ten}
use Rattle.gft_send.proofs.tests.send_both.Goals as goal

pub send-answer-requires-clause-ready : goal.send-answer-requires-clause-ready
send-answer-requires-clause-ready g c κs within =
    let plan : SendPlan = record { region = record { start = 0; end = 10 }; layout = Blocked 2; shape = record { stripes = 2; parallel = 2 } } in
    let one = c.in_ok-stripe.ensures in
    let other = c.in_ok-stripe-2.ensures in
    both (λ (s : Stripe MemoryDrive MemoryOutLane). IsReadyStripe (λ drive. state_after drive.label drive.disk drive.faults) out_lane_state plan s) c.as_mut_slice.result.now c.in_ok-stripe.field-0 c.in_ok-stripe-2.field-0
    (c.as_mut_slice.ensures.value ∙ c.in_ok-stripes.ensures.items)
    (record { channels = one.ready.0; is_open = one.ready.1; there = has_ten (image_of c.in_ok-stripe.field-0.drive) one.bytes })
    (record { channels = other.ready.0; is_open = other.ready.1; there = has_ten (image_of c.in_ok-stripe-2.field-0.drive) other.bytes })
