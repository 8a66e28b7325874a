use Rattle.gft_words.proofs.OneLemmas.{make-one}
use Rattle.gft_words.proofs.laws.client_words_have_one_value.Goals as goal

pub returns : goal.returns
returns c = make-one
