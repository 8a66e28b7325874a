-- The lines that a reply was heard from.
use Rattle.std.specs.Prelude.{◌≡◌, ℕ, ◌<◌, List, ◌++◌, length, map}
use Rattle.gft_text.specs.Words.{Told, Line}
use Rattle.gft_reply.specs.declared.reply.Reply.{Reply}
use Rattle.gft_reply.specs.declared.TheConstants.{LINE_COUNT_LIMIT}
use Rattle.gft_reply.specs.ReplyStream.{Heard, heard, nothing}
use Rattle.gft_reply.specs.Grammar.{IsReply}

-- the first lines are this reply, and the others tell the rest
pub record BeginsWith (told : List Told) (reply : Reply) (later : List Heard) : Type 0 where
  pub lines : List (List ℕ)
  pub rest : List Told
  pub told_is : told ≡ map Line lines ++ rest
  pub is_reply : IsReply lines reply
  pub few : length lines < LINE_COUNT_LIMIT
  pub later_is : later ≡ heard rest nothing
