use Rattle.std.proofs.Common.{map, take}
use Rattle.gft_words.specs.Arguments.{given_by}
use Rattle.gft_words.specs.Lookups.{IsLookup}
use Rattle.gft_words.specs.Options.{values}
use Rattle.gft_words.proofs.options.look_up.Given as goal

abbrev pub invariant-loop-argument : goal.invariant-loop-argument
invariant-loop-argument l = IsLookup l.found (values l.key (map given_by (take l.argument-index l.arguments)))
