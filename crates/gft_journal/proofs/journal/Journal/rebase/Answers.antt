use Rattle.std.proofs.Common.{List, sym, subst}
use Rattle.gft_range.specs.declared.Range.{Range}
use Rattle.gft_journal.specs.Bank.{IsSet}
use Rattle.gft_journal.proofs.Sets.{is_set}
use Rattle.gft_journal.proofs.journal.Journal.rebase.Goals as goal

pub rebase_to-requires-clause-set : goal.rebase_to-requires-clause-set
rebase_to-requires-clause-set g c κs within =
    subst (λ (l : List Range). IsSet l) (sym c.as_slice.ensures.ranges) (is_set c.args.set.now.ranges c.as_slice.ensures.normal c.requires.count c.requires.ends)
