use Rattle.std.proofs.Common.{◌∙◌, ap, subst, sym, take}
use Rattle.gft_range.specs.declared.TheConstants.{MAX_ITEMS}
use Rattle.gft_herald.specs.Words.{IsNamed}
use Rattle.gft_book.proofs.MarkLemmas.{take_named}
use Rattle.gft_book.proofs.book.Book.mark_copied.Goals as goal

pub returns-clause-named : goal.returns-clause-named
returns-clause-named g c =
    subst IsNamed (sym (c.in_ok-copy.ensures.ranges ∙ ap (λ l. take MAX_ITEMS l) c.ranges-2.ensures)) (take_named _ (rw (← c.self.view_is) at c.requires.some))
