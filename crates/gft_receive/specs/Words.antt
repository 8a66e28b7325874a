-- The words of this crate that the clauses and proofs of other crates may cite.
pub use Rattle.gft_receive.specs.Booking.{IsBooksCause, numbers_after}
pub use Rattle.gft_receive.specs.Causes.{cause_at, first_cause, silences}
pub use Rattle.gft_receive.specs.Complete.{GivesEach, IsExcused, IsUntold, RunsWhole, RunsWholeParts}
pub use Rattle.gft_receive.specs.Complete.{WholeLanesEndWell, WholePartsEndWell, WholeRunsEndWell, bytes_sent}
pub use Rattle.gft_receive.specs.Honest.{AreOfSource, AreOfTotal, FollowsOrder, IsHonestFor, IsHonestLeft}
pub use Rattle.gft_receive.specs.Honest.{MayBring, TellsTotal}
pub use Rattle.gft_receive.specs.Moved.{Bounds, MoverEnds, GaveAll, HasFailedFor, IsDoneWith, IsLanesCause}
pub use Rattle.gft_receive.specs.Moved.{IsMoved}
pub use Rattle.gft_receive.specs.Rows.{BringsBytes, channel_inputs}
pub use Rattle.gft_receive.specs.Telling.{HasTold, IsHeld, IsTellers, IsTellersCause, LiesBelow, Puts, PutsAll}
pub use Rattle.gft_receive.specs.Telling.{PutsPart, Tells, TellsWhole, line_of, lines_of, marker_of}
pub use Rattle.gft_receive.specs.Transfer.{AreFresh, AreMet, AreReady, EndsBadly, EndsWell, HasRun, MovesEach}
pub use Rattle.gft_receive.specs.Transfer.{Receives, ShowsGap, bounds_at, whole_ranges}
