-- The words of this crate that the clauses and proofs of other crates may cite.
pub use Rattle.gft_core.specs.Done.{AllPermit, Done, begun, eod_count, since, total}
pub use Rattle.gft_core.specs.Held.{covers, held}
unfoldable pub use Rattle.gft_core.specs.Held.{bank_names}
pub use Rattle.gft_core.specs.Kept.{answered, byte_at, carried, earliest, first_some, generation, kept}
pub use Rattle.gft_core.specs.Kept.{pending, unanswered, Booked}
pub use Rattle.gft_core.specs.Laws.{AllCarry, HasNoCrash, HasNoFresh, IsMarkOf, Stays}
pub use Rattle.gft_core.specs.Legal.{GoesOn, Legal, is_open, may_wait}
pub use Rattle.gft_core.specs.Progress.{CountsTransfer, IsInProgress}
pub use Rattle.gft_core.specs.Sender.{AllBring, CarriesSource, FollowsPlan, IsHonestStor, IsInOrder}
pub use Rattle.gft_core.specs.Sender.{lane_eods, lane_offsets, stor_list}
