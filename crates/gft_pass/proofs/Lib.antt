mod LedgerLemmas
mod PassLemmas
mod SeatLemmas
-- what the proofs of other crates may cite
pub mod Lemmas
