use Rattle.gft_opts.proofs.RetrLemmas.{blocked_text}
use Rattle.gft_opts.proofs.retr.write_named.Goals as goal

pub returns-in_ok-write-in-Blocked : goal.returns-in_ok-write-in-Blocked
returns-in_ok-write-in-Blocked c =
    rw (blocked_text c.args.layout c.in-Blocked.block c.in-Blocked.is) c.in_ok-write-in-Blocked.ensures.bytes
