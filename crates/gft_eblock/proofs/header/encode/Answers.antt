use Rattle.std.proofs.Common.{rules}
use Rattle.gft_eblock.specs.Spelling.{spelling}
use Rattle.gft_eblock.proofs.SpellingLemmas.{header_of-spelling}
use Rattle.gft_eblock.proofs.header.encode.Goals as goal

pub returns-clause-spelled : goal.returns-clause-spelled
unfolding spelling
returns-clause-spelled c =
    rw (c.copy_from_slice.ensures.after, c.copy_from_slice-2.ensures.after, c.to_be_bytes.ensures, c.to_be_bytes-2.ensures)

pub returns-clause-again : goal.returns-clause-again
returns-clause-again c = rw (returns-clause-spelled c) (header_of-spelling c.args.header.now (search rules) (search rules))
