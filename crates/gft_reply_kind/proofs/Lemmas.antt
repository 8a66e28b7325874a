-- The lemmas of this crate that the proofs of other crates may cite.
pub use Rattle.gft_reply_kind.proofs.CodeLemmas.{is_of_link, other_code, tells_link}
