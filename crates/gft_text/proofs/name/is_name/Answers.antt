use Rattle.gft_text.proofs.NameLemmas.{no_fault}
use Rattle.gft_text.proofs.name.is_name.Goals as goal

pub returns : goal.returns
returns c = no_fault c.args.text.now c.fault_in.result c.is_none.result c.fault_in.ensures c.is_none.ensures
