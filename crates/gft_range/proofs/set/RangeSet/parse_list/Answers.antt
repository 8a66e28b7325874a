use Rattle.gft_range.proofs.ListLemmas.{no_list_bad}
use Rattle.gft_range.proofs.set.RangeSet.parse_list.Goals as goal

pub returns-in-Err-clause-none : goal.returns-in-Err-clause-none
returns-in-Err-clause-none c = no_list_bad c.args.text.now c.in-Err.at c.in-Err.ensures.err
