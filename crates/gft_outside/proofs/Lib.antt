mod ArrivalLemmas
mod FindLemmas
mod HonestLaneLemmas
mod PieceLemmas
mod LinkLemmas
mod Places
mod ShelfLemmas
mod StateLemmas
mod TurnLemmas
-- what the proofs of other crates may cite
pub mod Lemmas
