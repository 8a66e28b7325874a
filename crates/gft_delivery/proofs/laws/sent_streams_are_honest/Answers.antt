use Rattle.gft_delivery.proofs.LawLemmas.{sending_law, short_law, whole_law}
use Rattle.gft_delivery.proofs.laws.sent_streams_are_honest.Goals as goal

pub returns-clause-sending : goal.returns-clause-sending
returns-clause-sending c = sending_law c.one_block.ensures

pub returns-clause-whole : goal.returns-clause-whole
returns-clause-whole c = whole_law c.one_block.ensures

pub returns-clause-short : goal.returns-clause-short
returns-clause-short c = short_law c.one_block.ensures
