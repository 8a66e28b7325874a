use Rattle.std.proofs.Common.{◌≡◌, length, rules}
use Rattle.gft_generated.proofs.GeneratorLemmas.{generated-whole}
use Rattle.gft_generated.proofs.generator.generate.Goals as goal

pub returns : goal.returns
returns c =
    let all : c.loop-byte.byte-index ≡ length c.args.buf.now = search rules in
    let long : length c.loop-byte.buf ≡ length c.args.buf.now = search rules in
    generated-whole c.args.seed c.args.at c.count_from-count.result c.loop-byte.buf c.loop-byte.byte-index _ all long c.count_from-count.ensures.same c.loop-byte.invariant.1
