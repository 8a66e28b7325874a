use Rattle.std.proofs.Common.{◌≡◌, ◌-◌, ◌≤◌, drop, rules}
use Rattle.gft_generated.specs.Generator.{generated}
use Rattle.gft_generated.proofs.GeneratorLemmas.{generated-cut}
use Rattle.gft_generated.proofs.segment.give_data.Goals as goal

pub returns-clause-given : goal.returns-clause-given
returns-clause-given c =
    let few : c.min-count.result ≤ c.args.range.end - c.args.range.start = search rules in
    let is : c.generate.new.buf ≡ generated c.args.seed c.args.range.start c.min-count.result = search rules in
    generated-cut c.args.seed c.args.range.start c.args.range.end c.min-count.result c.generate.new.buf (drop c.min-count.result c.args.buf.now) few is
