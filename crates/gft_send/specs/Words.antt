-- The words of this crate that the clauses and proofs of other crates may cite.
pub use Rattle.gft_send.specs.Sending.{CountsFaults, GoesOut, HasPlaces, HasRest, IsRestOf, IsSendCause}
pub use Rattle.gft_send.specs.Sending.{MayHave, MustHave}
pub use Rattle.gft_send.specs.Streams.{data_blocks, data_header, ending_of, eod_header, eof_header}
pub use Rattle.gft_send.specs.Streams.{sent_stream}
pub use Rattle.gft_send.specs.Stripes.{CarriesStripe, CountsLaneFaults, IsLeftOf, IsSendPlan, SendsLane}
pub use Rattle.gft_send.specs.Stripes.{bytes_in, channel_plan, stripe_bytes}
pub use Rattle.gft_send.specs.Transfers.{CarriesFile, IsReadyStripe, SendsStripe, TellsFile, add_sent}
pub use Rattle.gft_send.specs.Transfers.{all_sent}
