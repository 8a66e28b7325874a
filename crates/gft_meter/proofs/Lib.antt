mod AddLemmas
mod StepLemmas
mod SumLemmas
-- what the proofs of other crates may cite
pub mod Lemmas
