-- The lemmas of this crate that the proofs of other crates may cite.
pub use Rattle.gft_receive.proofs.BegunLemmas.{begun_fresh, begun_how, begun_many, begun_running}
pub use Rattle.gft_receive.proofs.RowLemmas.{channel_arrivals}
pub use Rattle.gft_receive.proofs.LinkLemmas.{HasFault, link_failed}
