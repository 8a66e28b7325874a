use Rattle.std.proofs.Common.{◌≡◌, ◌+◌, ◌-◌, ◌*◌, ◌^◌, ◌<◌, ◌≤◌, min, arith, ap, ◌∙◌}
use Rattle.std.proofs.lemmas.Nat.{mul-le}
use Rattle.gft_layout.specs.Blocks.{ranges_every}
use Rattle.gft_layout.proofs.BlockLemmas.{ranges-both_capped}
use Rattle.gft_layout.proofs.blocks.LayoutBlocks.blocked.Goals as goal

pub returns : goal.returns
returns c =
    let top = 2 ^ 64 - 1 in
    let region = c.args.region in
    let shape = c.args.shape in
    let block = c.args.block in
    let first = (c.args.channel * shape.stripes + c.args.stripe) * block in
    let cycle = shape.stripes * shape.parallel * block in
    let first_is : c.saturating_mul.result ≡ min first top = cc in
    let at : c.saturating_add.result ≡ min (region.start + first) top = omega arith in
    let step : c.saturating_mul-2.result ≡ min cycle top = cc in
    let fit = c.requires.shape in
    let a_turn : 1 ≤ shape.stripes * shape.parallel = mul-le 1 1 shape.stripes shape.parallel fit.a_stripe fit.a_channel in
    let a_byte : 1 ≤ cycle = mul-le 1 1 (shape.stripes * shape.parallel) block a_turn (omega arith) in
    let some : 0 < cycle = omega arith in
    let below : region.end ≤ top = omega arith in
    ap (λ a. ranges_every a block c.saturating_mul-2.result region.end) at
    ∙ ap (λ s. ranges_every (min (region.start + first) top) block s region.end) step
    ∙ ranges-both_capped top (region.start + first) block cycle region.end below some
