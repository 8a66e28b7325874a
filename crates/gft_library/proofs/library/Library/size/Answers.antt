use Rattle.gft_library.proofs.library.Library.size.Goals as goal

pub returns-clause-call : goal.returns-clause-call
returns-clause-call g c = (c.deref_mut.result.now, c.size.new.self, c.size.ensures.word)
