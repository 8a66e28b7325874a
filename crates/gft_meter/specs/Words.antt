-- The words of this crate that the clauses and proofs of other crates may cite.
pub use Rattle.gft_meter.specs.Adds.{MeterState, SeatState, added_on, all_rights, bytes_on, first_seat}
pub use Rattle.gft_meter.specs.Adds.{joined, most_added, with_bytes}
pub use Rattle.gft_meter.specs.declared.view.Add.{Add}
