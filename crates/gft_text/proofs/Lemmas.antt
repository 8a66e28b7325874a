-- The lemmas of this crate that the proofs of other crates may cite.
pub use Rattle.gft_text.proofs.HostPortLemmas.{IsHostPort-one, IsHostPort-text, four_bytes, two_more}
pub use Rattle.gft_text.proofs.LackLemmas.{decimal_lacks, lacks_joined, literal_lacks}
pub use Rattle.gft_text.proofs.LineLemmas.{told-line, told-none, told-overlong, without_return}
pub use Rattle.gft_text.proofs.NameLemmas.{names}
pub use Rattle.gft_text.proofs.TableLemmas.{texts_apart}
