use Rattle.gft_text.specs.Words.{FitsHostPort}
use Rattle.gft_opts.proofs.ListLemmas.{more_fit}
use Rattle.gft_opts.proofs.host_ports.HostPorts.push.Goals as goal

pub invariant_of-self-2 : goal.invariant_of-self-2
invariant_of-self-2 c =
    rw c.in_ok-push.ensures.items (more_fit FitsHostPort c.self.inside.addresses.items c.args.at c.self.invariant c.host_port_fits.ensures)
