mod FeedLemmas
mod FitsLemmas
mod GrammarLemmas
mod HeardLemmas
mod PieceLemmas
mod TakingLemmas
mod WrittenLemmas
-- what the proofs of other crates may cite
pub mod Lemmas
