use Rattle.std.proofs.Common.{None, Some, arith, false, refl, true}
use Rattle.gft_session.proofs.StoringLemmas.{retrieve_count, row_of_store}
use Rattle.gft_session.proofs.stepping.row.Goals as goal

pub returns-in-Stor-clause-row : goal.returns-in-Stor-clause-row
returns-in-Stor-clause-row g c = row_of_store _ c.args.command (record { path = c.in-Stor.path; part = None }) _ c.begin_store.result _ (rw c.in-Stor.is refl) (c.begin_store.ensures.stores (g.K.Link.state c.args.link.now) c.args.config.now)

pub returns-in-Stor-clause-ours : goal.returns-in-Stor-clause-ours
returns-in-Stor-clause-ours g c = omega (arith, c.begin_store.ensures.held)

pub returns-in-Stor-clause-text : goal.returns-in-Stor-clause-text
returns-in-Stor-clause-text g c = c.begin_store.ensures.text

pub returns-in-Esto-clause-row : goal.returns-in-Esto-clause-row
returns-in-Esto-clause-row g c = row_of_store _ c.args.command (record { path = c.in-Esto.esto.path; part = Some c.in-Esto.esto.offset }) _ c.begin_store-in-Esto.result _ (rw c.in-Esto.is refl) (c.begin_store-in-Esto.ensures.stores (g.K.Link.state c.args.link.now) c.args.config.now)

pub returns-in-Esto-clause-ours : goal.returns-in-Esto-clause-ours
returns-in-Esto-clause-ours g c = omega (arith, c.begin_store-in-Esto.ensures.held)

pub returns-in-Esto-clause-text : goal.returns-in-Esto-clause-text
returns-in-Esto-clause-text g c = c.begin_store-in-Esto.ensures.text

pub returns-in-Retr-clause-ours : goal.returns-in-Retr-clause-ours
returns-in-Retr-clause-ours g c = retrieve_count g.row.S-D.Denot g.row.O.Denot c.in-Retr.path false _ _ c.retrieve.result (c.retrieve.ensures.answers (g.K.Link.state c.args.link.now)) refl

pub returns-in-Eret-clause-ours : goal.returns-in-Eret-clause-ours
returns-in-Eret-clause-ours g c = retrieve_count g.row.S-D.Denot g.row.O.Denot c.in-Eret.eret.path true _ _ c.retrieve-in-Eret.result (c.retrieve-in-Eret.ensures.answers (g.K.Link.state c.args.link.now)) refl
