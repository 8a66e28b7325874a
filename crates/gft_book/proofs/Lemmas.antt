-- The lemmas of this crate that the proofs of other crates may cite.
pub use Rattle.gft_book.proofs.LiveLemmas.{IsLaneOf-lane, IsLive-carries_on, IsLive-running, IsLive-start, KeptSince-keeps}
pub use Rattle.gft_book.proofs.LiveLemmas.{FillsLine-new, IsLive-marks, KeepsTotal-marks, in_map, learns_fail}
pub use Rattle.gft_book.proofs.LiveLemmas.{passes_fit}
pub use Rattle.gft_book.proofs.MarkLemmas.{mark_held, take_named}
pub use Rattle.gft_book.proofs.PassesLemmas.{HasAllPasses-begun, HasAllPasses-lane, HasAllPasses-ok}
pub use Rattle.gft_book.proofs.PassesLemmas.{HasAllPasses-set, HasAllPasses-storing, IsLanePass-same}
pub use Rattle.gft_book.proofs.PassesLemmas.{IsLanePass-storing, Moving-refl, SamePass-store}
pub use Rattle.gft_book.proofs.TotalLemmas.{IsLive-known, IsLive-unknown, KeepsTotal-start, KeepsTotal-untold}
pub use Rattle.gft_book.proofs.TotalLemmas.{total_fail}
pub use Rattle.gft_book.proofs.SettleLemmas.{HasNoGap-met}
