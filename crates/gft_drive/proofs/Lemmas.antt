-- The lemmas of this crate that the proofs of other crates may cite.
pub use Rattle.gft_drive.proofs.Always.{Always, always_leaves, always_none, always_on, both_exact, bytes_still_synced, now_on, still_synced}
pub use Rattle.gft_drive.proofs.Banks.{SameBelow, SameBut, ends_all, ends_last, ends_same, names_added, names_all, names_same}
pub use Rattle.gft_drive.proofs.Looking.{Unchanged-then, synced_looked}
pub use Rattle.gft_drive.proofs.Run.{Phase, Since, elapses_refl, elapses_trans, exact_goes_on, goes_on, holds_on, is_exact}
pub use Rattle.gft_drive.proofs.Run.{leaves_as, leaves_by, reads_from, since_nothing, started, sync_goes_on}
pub use Rattle.gft_drive.proofs.Sending.{among_offsets, offsets_below, one_lane_fit, one_lane_fits}
pub use Rattle.gft_drive.proofs.Slots.{IsLayout, others_bytes, slot_moved, slot_same, torn_differs, written_differs}
pub use Rattle.gft_drive.proofs.Steps.{Goes-refl, Goes-then, Reads-same, Reads-then, Reads-weaker}
pub use Rattle.gft_drive.proofs.Steps.{tells_some, told_before, told_some}
