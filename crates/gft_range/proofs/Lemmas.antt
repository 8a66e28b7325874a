-- The lemmas of this crate that the proofs of other crates may cite.
pub use Rattle.gft_range.proofs.ListLemmas.{IsList-few, IsList-one}
pub use Rattle.gft_range.proofs.NormalLemmas.{one_list}
pub use Rattle.gft_range.proofs.OffsetLemmas.{HasOffset-or}
pub use Rattle.gft_range.proofs.UnionLemmas.{normal_few, union_of}
