use Rattle.gft_eblock.specs.Arrivals.{arrivals}
use Rattle.gft_eblock.specs.Channel.{to_come_in}
use Rattle.gft_eblock.proofs.channel.Channel.new.Goals as goal

pub returns-clause-to_come : goal.returns-clause-to_come
unfolding arrivals to_come_in
returns-clause-to_come c stream = rw c.new.ensures
