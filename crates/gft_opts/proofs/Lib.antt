mod ListLemmas
mod PartLemmas
mod RetrLemmas
mod SettingLemmas
mod TargetsLemmas
-- what the proofs of other crates may cite
pub mod Lemmas
