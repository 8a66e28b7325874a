use Rattle.gft_outside.proofs.PieceLemmas.{piece_kept, piece_order}
use Rattle.gft_outside.proofs.laws.piece_law.Goals as goal

pub returns-clause-kept : goal.returns-clause-kept
returns-clause-kept c = piece_kept

pub returns-clause-order : goal.returns-clause-order
returns-clause-order c = piece_order
