use Rattle.gft_keep.specs.Words.{keep_of}
use Rattle.gft_book.proofs.MarkLemmas.{mark_held_in}
use Rattle.gft_book.proofs.book.Book.mark_at.Goals as goal

pub returns-clause-held : goal.returns-clause-held
returns-clause-held g c =
    mark_held_in (keep_of g.D.Drive.state c.args.self.now.keep) c.args.self.now.marks c.args.number c.nth_mark.result c.facts.ensures.keep c.facts.ensures.marks c.nth_mark.ensures.mark
