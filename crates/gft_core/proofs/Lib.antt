mod CrashLemmas
mod HeldLemmas
mod HonestLemmas
mod KeptLemmas
mod MachineLemmas
mod OptionLemmas
mod ProgressLemmas
mod SenderLemmas
mod SumLemmas
-- what the proofs of other crates may cite
pub mod Lemmas
