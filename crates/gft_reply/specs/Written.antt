-- The text of a reply: how it is written, and which replies have one (RFC 959, section 4.2).
use Rattle.std.specs.Prelude.{ℕ, ◌+◌, ◌/◌, ◌%◌, ◌<◌, ◌≤◌, List, [], ◌∷◌, ◌++◌, length}
use Rattle.std.specs.List.{AllByRecursion}
use Rattle.gft_base.specs.Words.{Lacks, carriage_return, dash, digit_zero, line_feed, space}
use Rattle.gft_text.specs.declared.TheConstants.{LINE_LIMIT}
use Rattle.gft_reply.specs.declared.reply.Reply.{Reply}
use Rattle.gft_reply.specs.declared.written.Place.{Place}
use Rattle.gft_reply.specs.declared.written.Place.TheVariants as place
use Rattle.gft_reply.specs.declared.TheConstants.{LINE_COUNT_LIMIT}

-- the three digits of a code
abbrev pub code_text : ℕ → List ℕ
code_text code =
    (digit_zero + code / 100) ∷ (digit_zero + code % 100 / 10) ∷ (digit_zero + code % 100 % 10) ∷ []

-- what stands before the text: the code and a space in the last line, the code and a dash in a first one that
-- others follow, and a space in the lines between
abbrev pub front_of : Place → ℕ → List ℕ
front_of place.First code = code_text code ++ dash ∷ []
front_of place.Inner code = space ∷ []
front_of place.Last code = code_text code ++ space ∷ []

-- a line and its CR
abbrev pub written_line : Place → ℕ → List ℕ → List ℕ
written_line at code text = (front_of at code ++ text) ++ carriage_return ∷ []

-- a line that no others follow is the last
abbrev pub place_before : Place → List (List ℕ) → Place
place_before at [] = place.Last
place_before at (text ∷ texts) = at

-- the lines of these texts, of which the first stands here
abbrev pub written_lines : Place → ℕ → List (List ℕ) → List (List ℕ)
written_lines at code [] = []
written_lines at code (text ∷ texts) =
    written_line (place_before at texts) code text ∷ written_lines place.Inner code texts

-- an LF behind each line
abbrev pub spelled : List (List ℕ) → List ℕ
spelled [] = []
spelled (line ∷ lines) = line ++ line_feed ∷ spelled lines

-- the bytes of a reply
abbrev pub reply_text : Reply → List ℕ
reply_text reply = spelled (written_lines place.First reply.code reply.lines)

-- the line is no two lines, and isn't too long
abbrev pub IsReplyLine : List ℕ → Type 0
IsReplyLine line = Lacks line_feed line × (length line < LINE_LIMIT)

-- the reply has a text
pub record FitsReply (reply : Reply) : Type 0 where
  pub least : 100 ≤ reply.code
  pub most : reply.code ≤ 599
  pub some : 0 < length reply.lines
  pub few : length reply.lines < LINE_COUNT_LIMIT
  pub lines : AllByRecursion IsReplyLine (written_lines place.First reply.code reply.lines)
