mod DialLemmas
pub mod Lemmas
