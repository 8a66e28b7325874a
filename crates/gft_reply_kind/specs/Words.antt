-- The words of this crate that the clauses and proofs of other crates may cite.
pub use Rattle.gft_reply_kind.specs.Replies.{HasText}
unfoldable pub use Rattle.gft_reply_kind.specs.Replies.{busy_reply, cause_reply, library_reply, reply_of}
unfoldable pub use Rattle.gft_reply_kind.specs.Replies.{unread_reply}
