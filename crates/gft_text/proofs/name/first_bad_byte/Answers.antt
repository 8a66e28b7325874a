use Rattle.std.proofs.Common.{rules, tests, not}
use Rattle.std.proofs.lemmas.Iterator.{YieldsList-from_slice}
use Rattle.std.proofs.lemmas.Iterator.Search.{position_from_yields_List}
use Rattle.gft_text.specs.Name.{is_name_byte}
use Rattle.gft_text.proofs.name.first_bad_byte.Goals as goal

pub returns : goal.returns
returns c = position_from_yields_List (λ b. not (is_name_byte b)) _ _ _ c.position.ensures.ran (YieldsList-from_slice _ c.iter.ensures.rest) (λ x b q k. search (rules, tests))
