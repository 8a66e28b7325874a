mod BlockLaw
mod BlockLemmas
mod EndingLemmas
mod FeedLemmas
mod LastLemmas
mod SpellingLemmas
mod ToComeLemmas
-- what the proofs of other crates may cite
pub mod Lemmas
