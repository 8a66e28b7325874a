-- The words of this crate that the clauses and proofs of other crates may cite.
pub use Rattle.gft_gen.specs.Attempts.{Tells, complete_code}
pub use Rattle.gft_gen.specs.Making.{PutsSummary, RefusesMake}
pub use Rattle.gft_gen.specs.Summary.{summary_text, word_of}
unfoldable pub use Rattle.gft_gen.specs.Summary.{codes_text, equal_text, file_text, shape_text}
