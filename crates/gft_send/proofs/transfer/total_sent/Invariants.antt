use Rattle.std.proofs.Common.{◌≡◌, ◌+◌, drop}
use Rattle.std.specs.Prelude.{Ok, sum_by}
use Rattle.gft_send.specs.Transfers.{add_sent, all_sent, bytes_told}
use Rattle.gft_send.proofs.transfer.total_sent.Given as goal

abbrev pub invariant-loop-stripe : goal.invariant-loop-stripe
invariant-loop-stripe g l = record {
  so_far : all_sent l.stripes ≡ add_sent (Ok l.total) (all_sent (drop l.stripe-index l.stripes));
  counted : l.total + sum_by (λ s. bytes_told s.sent) (drop l.stripe-index l.stripes) ≡ sum_by (λ s. bytes_told s.sent) l.stripes;
}
