use Rattle.std.proofs.Common.{◌≡◌, arith, rules}
use Rattle.std.proofs.lemmas.Grind.{common_steps}
use Rattle.gft_text.specs.HostPort.{FitsHostPort, host_port_text}
use Rattle.gft_text.proofs.HostPortLemmas.{IsHostPort-text, four_bytes}
use Rattle.gft_text.proofs.host_port.write_host_port.Goals as goal

pub returns-clause-read_again : goal.returns-clause-read_again
returns-clause-read_again c =
    let text : c.into_bytes.result.items ≡ host_port_text c.args.at.now = grind (arith, common_steps) in
    let fits : FitsHostPort c.args.at.now = record {
      host = search rules;
      bytes = four_bytes c.args.at.now.host (search rules) (search rules) (search rules) (search rules) (search rules);
      port = search rules;
    } in
    rw text (IsHostPort-text c.args.at.now fits)
