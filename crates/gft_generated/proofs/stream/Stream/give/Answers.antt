use Rattle.std.proofs.Common.{◌≤◌, length, rules}
use Rattle.gft_generated.proofs.StreamLemmas.{stream_more}
use Rattle.gft_generated.proofs.stream.Stream.give.Goals as goal

pub stretches-preserved : goal.stretches-preserved
stretches-preserved c =
    let few : c.give_some-count.result ≤ length c.give_some-count.new.buf = search rules in (
      search rules,
      stream_more c.stretches.given c.give_some-count.result c.stretches.buf c.give_some-count.new.buf _ _ _ _ c.stretches.invariant.0 few c.stretches.invariant.1 c.give_some-count.ensures.given,
    )
