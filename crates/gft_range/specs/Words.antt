-- The words of this crate that the clauses and proofs of other crates may cite.
pub use Rattle.gft_range.specs.FirstGap.{HasNoGap, IsFirstGap}
pub use Rattle.gft_range.specs.ListText.{AreDashed, IsItem, IsList, items_of, list_text}
pub use Rattle.gft_range.specs.Normal.{BeginsAbove, IsNormal}
pub use Rattle.gft_range.specs.Range.{HasOffset, InRange}
pub use Rattle.gft_range.specs.Set.{IsMissing, IsUnion, KeptRanges}
