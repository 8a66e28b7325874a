-- The words of this crate that the clauses and proofs of other crates may cite.
pub use Rattle.gft_drive.specs.Drive.{DriveState, Image, IsLawful, MayLeave, Goes, Elapses, Unchanged}
pub use Rattle.gft_drive.specs.Drive.{OnPart, Reads, ReadsBy, Leaves, LeavesBy, ChangesOnly, IsSynced}
pub use Rattle.gft_drive.specs.Drive.{HasLength, HasRead, part_of}
pub use Rattle.gft_drive.specs.Memory.{IsNew, Memory, image_of}
pub use Rattle.gft_drive.specs.Sink.{AppendsPart, IsPartOf}
pub use Rattle.gft_drive.specs.Twin.{HasTwinCause, IsTwin}
pub use Rattle.gft_drive.specs.Write.{Anything, CutTo, DiffersIn, Same, Torn, TornCut, Written}
pub use Rattle.gft_drive.specs.Layout.{IsPad, IsPadded, Layout, Slot, bank_at, bank_size, first_layout}
pub use Rattle.gft_drive.specs.Layout.{layout_of, slot_at, slot_of}
unfoldable pub use Rattle.gft_drive.specs.Layout.{number_at}
pub use Rattle.gft_drive.specs.Ranges.{Covers, Has, IsBorn, IsComplete, IsFit, IsIntact, IsOpenAs, LastEndsAt}
pub use Rattle.gft_drive.specs.Ranges.{Names}
pub use Rattle.gft_drive.specs.Ranges.{complete_kind, layout_at, range_kind, selected, slot}
pub use Rattle.gft_drive.specs.Origin.{AreFit, IsAmong, IsPlan, IsSending, Orders, Sent, no_orders, offsets_from, one_lane}
pub use Rattle.gft_drive.specs.Origin.{sent_by, sent_if, sum_below, total_of}
