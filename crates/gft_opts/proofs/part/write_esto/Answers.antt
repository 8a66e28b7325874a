use Rattle.std.proofs.Common.{◌≡◌, arith}
use Rattle.std.proofs.lemmas.Grind.{common_steps}
use Rattle.gft_opts.specs.Part.{esto_text}
use Rattle.gft_opts.proofs.PartLemmas.{esto_written}
use Rattle.gft_opts.proofs.part.write_esto.Goals as goal

pub returns-clause-read_again : goal.returns-clause-read_again
returns-clause-read_again c =
    let text : c.extend_from_slice.new.self.items ≡ esto_text c.args.esto.now = grind (arith, common_steps) in
    rw text (esto_written c.args.esto.now c.requires)
