mod Appends
mod Changing
mod Counts
mod Failing
mod Filling
mod Fronts
mod Full
mod Holding
mod Images
mod Kept
mod Opened
mod Running
mod Stages
mod Blocks
-- what the proofs of other crates may cite
pub mod Lemmas
