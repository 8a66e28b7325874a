mod HostPortLemmas
mod LackLemmas
mod LineLemmas
mod NameLemmas
mod TableLemmas
-- what the proofs of other crates may cite
pub mod Lemmas
