-- The lemmas of this crate that the proofs of other crates may cite.
pub use Rattle.gft_eblock.proofs.BlockLaw.{block_law, length-spelling}
pub use Rattle.gft_eblock.proofs.EndingLemmas.{IsUnfinished-append, IsUnfinished-data_at, arrivals-ended}
pub use Rattle.gft_eblock.proofs.EndingLemmas.{arrivals-grow, unfinished_not_ended}
pub use Rattle.gft_eblock.proofs.LastLemmas.{IsLastEod, eods-append, eods-data_at, last_eod}
pub use Rattle.gft_eblock.proofs.ToComeLemmas.{to_come-data, to_come-done, to_come-early, to_come-nothing}
