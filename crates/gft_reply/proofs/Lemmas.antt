-- The lemmas of this crate that the proofs of other crates may cite.
pub use Rattle.gft_reply.proofs.FitsLemmas.{FitsReply-short, IsLineText}
