use Rattle.std.proofs.Common.{refl}
use Rattle.gft_command.specs.declared.command.TheConstants.{VERBS}
use Rattle.gft_command.proofs.VerbLemmas.{found_verb, unknown_verb}
use Rattle.gft_command.proofs.command.blank_of.Goals as goal

pub returns-in-Some : goal.returns-in-Some
returns-in-Some c = found_verb _ VERBS.now _ _ _ c.in-Some.ensures refl c.blank.ensures

pub returns-in-None : goal.returns-in-None
returns-in-None c = unknown_verb _ _ c.in-None.ensures refl
