use Rattle.gft_opts.proofs.RetrLemmas.{no_layout}
use Rattle.gft_opts.proofs.retr.read_retr.Goals as goal

pub returns-in-None-clause-none : goal.returns-in-None-clause-none
returns-in-None-clause-none c = no_layout c.args.text.now _ _ _ c.in-Some.ensures c.in-None.ensures
