use Rattle.gft_gen.proofs.making.run_attempts.Goals as goal

pub returns-in-Err : goal.returns-in-Err
returns-in-Err g c = c.unfinished.ensures c.args.file.size
