-- The words of this crate that the clauses and proofs of other crates may cite.
pub use Rattle.gft_pass.specs.Causes.{cause_of_count, causes, one, or_else}
pub use Rattle.gft_pass.specs.Ledger.{AllPasses, IsAt, Lane, Ledger, lanes_below, nothing}
