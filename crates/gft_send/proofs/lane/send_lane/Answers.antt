use Rattle.std.proofs.Common.{arith}
use Rattle.gft_send.proofs.LaneLemmas.{sent_refused}
use Rattle.gft_send.proofs.lane.send_lane.Goals as goal

pub returns-in-Err : goal.returns-in-Err
returns-in-Err g c =
    let some = c.requires.plan.shape.a_channel in
    let many = c.requires.channels in
    sent_refused g.X.OutLane.state c.args.plan.now c.args.done.now.ranges c.args.stripe (g.D.Drive.state c.args.drive.now) c.args.channels.now c.requires.there (omega arith)
