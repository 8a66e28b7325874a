-- The lemmas of this crate that the proofs of other crates may cite.
pub use Rattle.gft_pass.proofs.LedgerLemmas.{IsAt-below, IsAt-nothing, IsAt-other, IsAt-same, IsAt-set}
pub use Rattle.gft_pass.proofs.LedgerLemmas.{IsAt-set_or, IsAt-some}
pub use Rattle.gft_pass.proofs.LedgerLemmas.{causes-first, causes-none, causes-nothing, causes-one, causes-set}
pub use Rattle.gft_pass.proofs.LedgerLemmas.{eods_at, eods_at-here, eods_at-or, length-set}
pub use Rattle.gft_pass.proofs.LedgerLemmas.{sum_by-at, sum_by-nothing, sum_by-set}
pub use Rattle.gft_pass.proofs.PassLemmas.{AllPasses-counts, AllPasses-lane, AllPasses-length, AllPasses-set}
