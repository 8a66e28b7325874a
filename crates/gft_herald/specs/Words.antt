-- The words of this crate that the clauses and proofs of other crates may cite.
pub use Rattle.gft_herald.specs.Line.{IsFrontOf, IsNamed, LineId, Pushed, SamePushed, Taken, TakesNext, TakesOne}
