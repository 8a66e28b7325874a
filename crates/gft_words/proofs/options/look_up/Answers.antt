use Rattle.std.proofs.Common.{arith}
use Rattle.gft_words.proofs.OptionLemmas.{look_more}
use Rattle.gft_words.proofs.options.look_up.Goals as goal

pub loop-argument-preserved : goal.loop-argument-preserved
loop-argument-preserved c = look_more _ _ c.args.key.now c.args.arguments.now c.loop-argument.argument-index _ (omega arith) c.found_with-found.ensures c.loop-argument.invariant
