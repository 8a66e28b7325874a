mod ReplyLemmas
mod CodeLemmas
-- what the proofs of other crates may cite
pub mod Lemmas
