-- The lemmas of this crate that the proofs of other crates may cite.
pub use Rattle.gft_layout.proofs.LawLemmas.{NamesItsOffsets-plan, owner_within, plan_longest}
