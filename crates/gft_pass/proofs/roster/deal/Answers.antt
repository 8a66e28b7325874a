use Rattle.std.proofs.Common.{arith}
use Rattle.gft_pass.proofs.SeatLemmas.{deals}
use Rattle.gft_pass.proofs.roster.deal.Goals as goal

pub split_seat-token-requires : goal.split_seat-token-requires
split_seat-token-requires c =
    let n = c.requires.next in
    (c.requires.table.0, c.requires.table.1, λ s h at. deals s.views _ _ n.0 (omega (arith, n.1, n.2)) h at)
