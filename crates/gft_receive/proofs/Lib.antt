mod BookingLemmas
mod HonestLemmas
mod CauseLemmas
mod TableLemmas
mod TurnLemmas
mod FeedLemmas
mod PieceLemmas
mod MoverLemmas
mod ListLemmas
mod RunLemmas
mod TallyLemmas
mod WholeLemmas
mod EachLemmas
mod CompleteLemmas
mod GapLemmas
mod TellingLemmas
mod LastLemmas
mod ToldLemmas
mod BehindLemmas
mod KnownLemmas
mod PartLemmas
mod BegunLemmas
mod RowLemmas
-- what the proofs of other crates may cite
pub mod Lemmas
mod LinkLemmas
