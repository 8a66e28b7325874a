-- The words of this crate that the clauses and proofs of other crates may cite.
pub use Rattle.gft_reply.specs.Replies.{CarriesReply, HasRefused, RefusesReply, replies_to_come, replies_told}
pub use Rattle.gft_reply.specs.ReplyStream.{Heard, Refused, Replied, heard, replies}
pub use Rattle.gft_reply.specs.Standing.{Standing}
pub use Rattle.gft_reply.specs.Written.{FitsReply, reply_text}
