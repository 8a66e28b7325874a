-- The words of this crate that the clauses and proofs of other crates may cite.
pub use Rattle.gft_keep.specs.Calls.{Attached, Broke, CountsFault, Emptied, Finished, NotAttached, OnlyLooks}
pub use Rattle.gft_keep.specs.Calls.{NotReattached, Reattached, Reopened, SameKept}
pub use Rattle.gft_keep.specs.Image.{HasFewRanges, Holds, IsDamagedBy, IsShort, IsSound, ReachesTo}
pub use Rattle.gft_keep.specs.Keep.{HasKept, IsEmptying, IsExact, IsKeep, IsOpen, IsTorn, IsUnbroken}
pub use Rattle.gft_keep.specs.Keep.{MovesBy, StandsAs, StandsWhole}
pub use Rattle.gft_keep.specs.Of.{drive_of, keep_of}
pub use Rattle.gft_keep.specs.State.{EachImage, IsWhole, KeepState, once_failed}
pub use Rattle.gft_keep.specs.Steps.{CompletesNothing, Empties, Finishes, HasFinished, IsEmpty, NamesNone}
pub use Rattle.gft_keep.specs.Steps.{Reopens, StaysHeld, Stores, StoresSome, block_of}
pub use Rattle.gft_keep.specs.Store.{IsBlock, IsFull, IsNewCount, Refused, ShowsRefusal, Stored, offset_count}
