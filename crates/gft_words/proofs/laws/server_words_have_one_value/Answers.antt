use Rattle.gft_words.proofs.OneLemmas.{serve-one}
use Rattle.gft_words.proofs.laws.server_words_have_one_value.Goals as goal

pub returns : goal.returns
returns c = serve-one
