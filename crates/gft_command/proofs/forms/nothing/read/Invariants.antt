use Rattle.std.proofs.Common.{take}
use Rattle.gft_base.specs.Words.{AreSpaces}
use Rattle.gft_command.proofs.forms.nothing.read.Given as goal

abbrev pub invariant-loop-byte : goal.invariant-loop-byte
invariant-loop-byte l = AreSpaces (take l.byte-index l.text)
