mod FirstGapLemmas
mod GapLemmas
mod JoinLemmas
mod ListLemmas
mod NormalLemmas
mod OffsetLemmas
mod SearchLemmas
mod TouchLemmas
mod UnionLemmas
mod WholeLemmas
-- what the proofs of other crates may cite
pub mod Lemmas
