use Rattle.std.proofs.Common.{◌≡◌, length, refl, rules}
use Rattle.gft_generated.proofs.GeneratorLemmas.{generated-part, generated-whole}
use Rattle.gft_generated.proofs.generator.is_generated.Goals as goal

pub returns : goal.returns
returns c =
    let all : c.loop-byte.byte-index ≡ length c.args.bytes.now = search rules in
    let same = c.count_from-count.ensures.same in (
      λ is. generated-whole c.args.seed c.args.at c.count_from-count.result c.args.bytes.now c.loop-byte.byte-index _ all refl same (c.loop-byte.invariant.1.0 is),
      λ is. c.loop-byte.invariant.1.1 (generated-part c.args.seed c.args.at c.count_from-count.result c.args.bytes.now c.loop-byte.byte-index _ all same is),
    )
