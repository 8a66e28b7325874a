-- The lemmas of this crate that the proofs of other crates may cite.
pub use Rattle.gft_outside.proofs.ArrivalLemmas.{gained_behind, gained_more, gained_none, reverse-push}
pub use Rattle.gft_outside.proofs.ArrivalLemmas.{cuts, one_channel, stream_came, stream_here, stream_other}
pub use Rattle.gft_outside.proofs.HonestLaneLemmas.{arrival_events-append, honest_front, lanes_follow}
pub use Rattle.gft_outside.proofs.HonestLaneLemmas.{truthful_brings}
pub use Rattle.gft_outside.proofs.PieceLemmas.{piece_kept, piece_order}
pub use Rattle.gft_outside.proofs.StateLemmas.{channels_after-append, gains_more, gains_none, gives_more, gives_none}
pub use Rattle.gft_outside.proofs.StateLemmas.{hears_more, hears_none, in_turn-append, in_turn-newer, in_turn-older}
pub use Rattle.gft_outside.proofs.StateLemmas.{loses_more, loses_none}
