-- The words of this crate that the clauses and proofs of other crates may cite.
pub use Rattle.gft_eblock.specs.Arrival.{Arrival, Arrives, At, Bad, Eod, Eof, Refusal, eods, totals}
pub use Rattle.gft_eblock.specs.Arrivals.{HasEnded, IsUnfinished, data_at, end_or}
unfoldable pub use Rattle.gft_eblock.specs.Arrivals.{arrivals, blocks_from, data_then, good_block}
pub use Rattle.gft_eblock.specs.Channel.{IsDone, IsDoneState, Reader, refusal_of, to_come, wanted}
pub use Rattle.gft_eblock.specs.Feeding.{Advances, Fails, IsEventOf, TakesMore, event_arrivals}
unfoldable pub use Rattle.gft_eblock.specs.Header.{has_flag, is_bad}
pub use Rattle.gft_eblock.specs.Header.{is_eod, is_eof}
unfoldable pub use Rattle.gft_eblock.specs.Spelling.{header_of, spelling}
