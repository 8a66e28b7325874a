use Rattle.std.proofs.Common.{take, drop, reverse, ap, ◌∙◌}
use Rattle.gft_outside.proofs.Places.{piece_map}
use Rattle.gft_outside.proofs.control_item.ControlItem.give.Goals as goal

pub returns-in-Bytes-clause-given : goal.returns-in-Bytes-clause-given
returns-in-Bytes-clause-given c =
    let n = c.copy_piece-count.result in
    rw c.in-Bytes.is (ap reverse (piece_map _ c.copy_piece-count.new.buf _ n c.args.from (c.copy_piece-count.ensures.copied ∙ ap (λ l. take n (drop c.args.from l)) c.bytes.ensures.bytes)))
