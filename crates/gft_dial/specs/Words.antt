-- The words of this crate that the clauses and proofs of other crates may cite.
pub use Rattle.gft_dial.specs.Dials.{DialsTo, ReturnsOut, StopsAt, each_times, in_pairs, outs_of, with_faults}
pub use Rattle.gft_dial.specs.Regions.{region_in}
pub use Rattle.gft_dial.specs.Stripes.{DialsFailed, DialsNone, IsNewStripe}
