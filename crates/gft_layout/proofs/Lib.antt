mod BlockLemmas
mod LawLemmas
mod LeftLemmas
mod PlanLemmas
mod RunLemmas
mod TurnLemmas
-- what the proofs of other crates may cite
pub mod Lemmas
