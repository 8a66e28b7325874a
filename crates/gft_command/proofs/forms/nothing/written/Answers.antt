use Rattle.gft_command.proofs.RowLemmas.{verb_text}
use Rattle.gft_command.proofs.forms.nothing.written.Goals as goal

pub returns : goal.returns
returns c = rw (c.in_ok-from_slice.ensures.items, c.as_bytes.ensures.value) (verb_text c.args.verb.now c.requires)
