-- The lemmas of this crate that the proofs of other crates may cite.
pub use Rattle.gft_core.proofs.CrashLemmas.{closed, crash_kept, foremost, image_holds, mark_booked, pending_first}
pub use Rattle.gft_core.proofs.HeldLemmas.{covers-is, held_law}
pub use Rattle.gft_core.proofs.HonestLemmas.{honest, sent_where_booked}
pub use Rattle.gft_core.proofs.KeptLemmas.{byte_at-here, byte_at-later, byte_within, within_byte}
pub use Rattle.gft_core.proofs.OptionLemmas.{first_some-assoc, first_some-none, first_some_back, first_some_either}
pub use Rattle.gft_core.proofs.OptionLemmas.{first_some_front, same_options}
pub use Rattle.gft_core.proofs.ProgressLemmas.{Counts-eod, Counts-eof, broken-eod, broken-eof, broken_stays}
pub use Rattle.gft_core.proofs.ProgressLemmas.{counts_block, counts_mark, else_none, eod_fits, eof_fits, first_is}
