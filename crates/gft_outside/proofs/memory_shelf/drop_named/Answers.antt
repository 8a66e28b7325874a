use Rattle.std.proofs.Common.{rules}
use Rattle.std.proofs.lemmas.Fn.{filter_same}
use Rattle.gft_outside.specs.MemoryShelves.{is_elsewhere}
use Rattle.gft_outside.proofs.memory_shelf.drop_named.Goals as goal

pub returns : goal.returns
returns c = filter_same _ (is_elsewhere c.args.name.now) _ (λ item b keep called. search rules) _ _ c.retain.ensures.filtered
