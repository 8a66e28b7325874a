use Rattle.gft_text.proofs.HostPortLemmas.{IsHostPort-text, IsHostPort-one}
use Rattle.gft_text.proofs.laws.host_ports_have_one_value.Goals as goal

pub returns-clause-written : goal.returns-clause-written
returns-clause-written c = IsHostPort-text

pub returns-clause-one : goal.returns-clause-one
returns-clause-one c = IsHostPort-one
