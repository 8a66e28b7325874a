use Rattle.std.proofs.Common.{rules}
use Rattle.gft_text.proofs.Lemmas.{four_bytes}
use Rattle.gft_opts.proofs.laws.host_port_fits.Goals as goal

pub returns : goal.returns
returns c = record {
  host = search rules;
  bytes = four_bytes c.args.at.now.host (search rules) (search rules) (search rules) (search rules) (search rules);
  port = search rules;
}
