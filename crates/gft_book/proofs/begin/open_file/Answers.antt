use Rattle.std.proofs.Common.{sym, subst, OnOk}
use Rattle.gft_keep.specs.Words.{keep_of}
use Rattle.gft_book.specs.declared.usage.How.{How}
use Rattle.gft_book.specs.Begin.{OpensFor}
use Rattle.gft_book.proofs.ChoiceLemmas.{on_ok}
use Rattle.gft_book.proofs.StartLemmas.{OpensFor-esto, OpensFor-resume}
use Rattle.gft_book.proofs.begin.open_file.Goals as goal

pub returns-in-Resume-clause-opened : goal.returns-in-Resume-clause-opened
returns-in-Resume-clause-opened g c =
    subst (λ (how : How). OnOk c.resume.result (OpensFor how (keep_of g.D.Drive.state c.args.keep.now) (keep_of g.D.Drive.state c.resume.new.self))) (sym c.in-Resume.is)
    (on_ok c.resume.result _ _ (λ e. OpensFor-resume _ _ _ e c.requires.unbroken) c.resume.ensures.reopened)

pub returns-in-Esto-clause-opened : goal.returns-in-Esto-clause-opened
returns-in-Esto-clause-opened g c =
    subst (λ (how : How). OnOk c.resume-in-Esto.result (OpensFor how (keep_of g.D.Drive.state c.args.keep.now) (keep_of g.D.Drive.state c.resume-in-Esto.new.self))) (sym c.in-Esto.is)
    (on_ok c.resume-in-Esto.result _ _ (λ e. OpensFor-esto _ _ e c.requires.unbroken) c.resume-in-Esto.ensures.reopened)
