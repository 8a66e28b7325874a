-- The words of this crate that the clauses and proofs of other crates may cite.
pub use Rattle.gft_eod.specs.Count.{Count, IsCount, IsMet, IsWithin}
pub use Rattle.gft_eod.specs.Refusal.{eod_refusal, eods_refusal, eof_refusal, totals_refusal}
