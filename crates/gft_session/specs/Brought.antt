-- What a line brings, and what a session gives.
use Rattle.std.specs.Prelude.{ℕ, List, [], ◌∷◌, ◌++◌, Option, None}
use Rattle.gft_reply.specs.declared.reply.Reply.{Reply}
use Rattle.gft_reply.specs.Words.{reply_text}
use Rattle.gft_library.specs.Words.{NamedWord}
use Rattle.gft_reply_kind.specs.declared.ReplyKind.{ReplyKind}
use Rattle.gft_session.specs.declared.response.Response.{Response}
use Rattle.gft_reply_kind.specs.Words.{reply_of}

-- the replies to a line, in order, and the answer of the library that the last of them gives
pub record Brought : Type 0 where
  pub replies : List Reply
  pub answer : Option NamedWord

-- the bytes of replies, in order
abbrev pub text_of_all : List Reply → List ℕ
text_of_all [] = []
text_of_all (reply ∷ replies) = reply_text reply ++ text_of_all replies

-- one reply, and an answer with it
abbrev pub brings : ReplyKind → Option NamedWord → Brought
brings kind answer = record { replies = reply_of kind ∷ []; answer = answer }

-- one reply that gives no answer of the library
abbrev pub alone : ReplyKind → Brought
alone kind = brings kind None

abbrev pub brought_of : {S : Type 0} → Response S → Brought
brought_of response = brings response.kind response.answer

-- what was put, and the answers that the tally took, where they are told
pub record Output : Type 0 where
  pub put : Option (List ℕ)
  pub taken : Option (List NamedWord)

abbrev pub output : Option (List ℕ) → Option (List NamedWord) → Output
output put taken = record { put = put; taken = taken }
