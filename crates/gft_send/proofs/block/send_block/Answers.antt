use Rattle.std.proofs.Common.{◌≡◌, ◌++◌, length, take, drop, arith, ◌∙◌}
use Rattle.std.proofs.lemmas.List.{length-take-le}
use Rattle.gft_eblock.specs.Words.{spelling}
use Rattle.gft_send.specs.Streams.{data_header}
use Rattle.gft_send.proofs.BlockLemmas.{block_step, block_stop, front_is}
use Rattle.gft_send.proofs.block.send_block.Goals as goal

pub returns-in-Ok : goal.returns-in-Ok
returns-in-Ok g c =
    let range = c.args.range in
    let s = g.D.Drive.state in
    let o = g.X.OutLane.state in
    let laws = (g.met.D.Drive g.world.𝓛 g.world.𝓜 g.world.𝓡 ((λ s x. x), (λ x. x), (λ x. x), λ x. x)).lawful in
    let part = c.copy_from_slice.new.self in
    let header = spelling (data_header range) in
    let taken : length (take 17 c.args.buf.now) ≡ 17 = length-take-le 17 c.args.buf.now (let room = c.requires.room in omega arith) in
    let size : length part ≡ 17 = c.copy_from_slice.auto.self ∙ taken in
    let is : part ≡ header = c.copy_from_slice.ensures.after ∙ c.encode.ensures.spelled in
    let some = c.requires.some in
    let count = c.in-Ok.ensures.count in
    block_step range c.in-Ok.count (drop 0 (take 17 (part ++ drop 17 c.args.buf.now))) header (s c.args.drive.now) (s c.send_piece.new.drive) (s c.send_rest.new.drive) (o c.args.out.now) (o c.send_piece.new.out) (o c.send_rest.new.out)
    c.send_rest.result (laws c.send_piece.new.drive) (laws c.send_rest.new.drive) (front_is 17 part (drop 17 c.args.buf.now) header size is) (omega arith) c.in-Ok.ensures.sends c.send_rest.ensures

pub returns-in-Err : goal.returns-in-Err
returns-in-Err g c =
    let range = c.args.range in
    let s = g.D.Drive.state in
    let o = g.X.OutLane.state in
    let part = c.copy_from_slice.new.self in
    let header = spelling (data_header range) in
    let taken : length (take 17 c.args.buf.now) ≡ 17 = length-take-le 17 c.args.buf.now (let room = c.requires.room in omega arith) in
    let size : length part ≡ 17 = c.copy_from_slice.auto.self ∙ taken in
    let is : part ≡ header = c.copy_from_slice.ensures.after ∙ c.encode.ensures.spelled in
    block_stop range (drop 0 (take 17 (part ++ drop 17 c.args.buf.now))) header (s c.args.drive.now) (s c.send_piece.new.drive) (o c.args.out.now) (o c.send_piece.new.out) c.in-Err.cause
    (front_is 17 part (drop 17 c.args.buf.now) header size is) c.in-Err.ensures.sends
