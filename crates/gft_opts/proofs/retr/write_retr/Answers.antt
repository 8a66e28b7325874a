use Rattle.std.proofs.Common.{◌≡◌, arith}
use Rattle.std.proofs.lemmas.Grind.{common_steps}
use Rattle.gft_opts.specs.Retr.{retr_text}
use Rattle.gft_opts.proofs.RetrLemmas.{written}
use Rattle.gft_opts.proofs.retr.write_retr.Goals as goal

pub returns-clause-read_again : goal.returns-clause-read_again
returns-clause-read_again c =
    let text : c.into_bytes.result.items ≡ retr_text c.args.options.now = grind (arith, common_steps) in
    rw text (written c.args.options.now c.requires)
