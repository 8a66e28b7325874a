-- The lemmas of this crate that the proofs of other crates may cite.
pub use Rattle.gft_meter.proofs.AddLemmas.{added_on-append, added_on-cons, added_on-cons_other}
