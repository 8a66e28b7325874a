-- The words of this crate that the clauses and proofs of other crates may cite.
pub use Rattle.gft_mark.specs.Markers.{IsMarker, IsPerfMarker, IsRangeMarker, perf_lines, range_marker_text}
