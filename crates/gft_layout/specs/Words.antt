-- The words of this crate that the clauses and proofs of other crates may cite.
pub use Rattle.gft_layout.specs.Owner.{IsLayout, IsOwner, IsShape, LayoutBlock, Owner, block_at, owner_of}
unfoldable pub use Rattle.gft_layout.specs.Plan.{plan_of}
pub use Rattle.gft_layout.specs.Runs.{IsAscending, IsLeft, IsLongestRun, NamesItsOffsets}
