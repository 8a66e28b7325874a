use Rattle.gft_session.proofs.session.run_session.Goals as goal

pub converse-end-requires-clause-honest : goal.converse-end-requires-clause-honest
converse-end-requires-clause-honest g c κs within = rw (← c.new-settings.ensures) at c.requires.honest
