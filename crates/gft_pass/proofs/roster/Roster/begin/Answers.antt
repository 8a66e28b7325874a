use Rattle.gft_pass.proofs.SeatLemmas.{opens}
use Rattle.gft_pass.proofs.roster.Roster.begin.Goals as goal

pub of_words-requires : goal.of_words-requires
of_words-requires c = opens c.args.lanes
