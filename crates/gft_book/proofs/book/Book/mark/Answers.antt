use Rattle.std.proofs.Common.{◌≡◌, length, refl, ap, ◌∙◌, take, arith}
use Rattle.gft_range.specs.declared.TheConstants.{MAX_ITEMS}
use Rattle.gft_book.proofs.MarkLemmas.{IsBook-mark, Fits-mark}
use Rattle.gft_book.proofs.book.Book.mark.Goals as goal

pub invariant_of-self-2 : goal.invariant_of-self-2
invariant_of-self-2 g c =
    let number : c.len-number.result ≡ length c.self.inside.marks.items = omega (arith, c.len-number.ensures, c.self.inside.marks.ok.0) in
    IsBook-mark _ _ _ _ c.self.invariant (rw (← c.self.view_is) at c.requires.storing) (rw (← c.self.view_is) at c.requires.some) refl refl c.in_ok-push.ensures.items
    number (c.in_ok-ranges.ensures.ranges ∙ ap (λ l. take MAX_ITEMS l) c.ranges-2.ensures)

pub returns-clause-events : goal.returns-clause-events
returns-clause-events g c =
    rw (← c.self.view_is) (λ events f. Fits-mark _ _ _ c.self.invariant.keep (rw (← c.self.view_is) at c.requires.storing) refl refl c.in_ok-push.ensures.items
    (c.in_ok-ranges.ensures.ranges ∙ ap (λ l. take MAX_ITEMS l) c.ranges-2.ensures) events f)
