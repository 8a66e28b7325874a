mod ChoiceLemmas
mod KeepLemmas
mod OriginLemmas
mod NumbersLemmas
mod SumLemmas
mod TransferLemmas
mod FitLemmas
mod StoreLemmas
mod CountLemmas
mod MarkLemmas
mod EndLemmas
mod SettleLemmas
mod MissingLemmas
mod BeginLemmas
mod StartLemmas
mod ReaderLemmas
mod LiveLemmas
mod TotalLemmas
mod PassesLemmas
-- what the proofs of other crates may cite
pub mod Lemmas
