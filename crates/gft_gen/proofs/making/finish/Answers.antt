use Rattle.gft_gen.proofs.making.finish.Goals as goal

pub returns-in-Err : goal.returns-in-Err
returns-in-Err c = c.unfinished.ensures c.args.size
