-- Where a reader of replies stands in its stream, and what is still to come.
use Rattle.std.specs.Prelude.{◌≡◌, ℕ, ◌≤◌, true, if◌then◌else◌, List, [], ◌∷◌, ◌++◌, length, take}
use Rattle.std.specs.Prelude.{Option, Some, None}
use Rattle.gft_text.specs.Words.{told}
use Rattle.gft_reply.specs.declared.reply.Reply.{Reply}
use Rattle.gft_reply.specs.declared.replies.Got.{Got}
use Rattle.gft_reply.specs.ReplyStream.{Heard, Replied, Refused, heard}
use Rattle.gft_reply.specs.Standing.{Standing}

-- what the stream still tells, if these are the bytes that follow
abbrev pub replies_to_come : Standing → List ℕ → List Heard
replies_to_come standing later =
    if standing.failed then Refused ∷ []
    else heard (told (standing.bytes ++ later)) (record { code = standing.code; lines = standing.lines })

-- a line was refused
abbrev pub HasRefused : Standing → Type 0
HasRefused standing = standing.failed ≡ true

-- what a feed tells: the reply that it ended
abbrev pub replies_told : Option Reply → List Heard
replies_told None = []
replies_told (Some reply) = Replied reply ∷ []

-- the feed tells what these bytes of the stream tell, and the rest is still to come
pub record CarriesReply (old : Standing) (piece : List ℕ) (got : Got) (new : Standing) : Type 0 where
  pub used : got.used ≤ length piece
  pub all : (later : List ℕ) →
      replies_to_come old (take got.used piece ++ later) ≡ replies_told got.reply ++ replies_to_come new later
  -- a stream that ends here tells nothing more
  pub settled : replies_to_come new [] ≡ []

-- a line was refused before a reply ended; behind it nothing is told
pub record RefusesReply (old : Standing) (piece : List ℕ) (new : Standing) : Type 0 where
  pub comes : (later : List ℕ) → replies_to_come old (piece ++ later) ≡ Refused ∷ []
  pub failed : HasRefused new
  pub stays : (later : List ℕ) → replies_to_come new later ≡ Refused ∷ []
