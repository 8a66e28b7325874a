use Rattle.std.proofs.Common.{◌≡◌, arith}
use Rattle.std.proofs.lemmas.Grind.{common_steps}
use Rattle.gft_opts.specs.Part.{eret_text}
use Rattle.gft_opts.proofs.PartLemmas.{eret_written}
use Rattle.gft_opts.proofs.part.write_eret.Goals as goal

pub returns-clause-read_again : goal.returns-clause-read_again
returns-clause-read_again c =
    let text : c.extend_from_slice.new.self.items ≡ eret_text c.args.eret.now = grind (arith, common_steps) in
    rw text (eret_written c.args.eret.now c.requires)
