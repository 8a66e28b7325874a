-- What a stream's lines tell: its replies, in order, up to a line that can't stand there (RFC 959, section
-- 4.2).
use Rattle.std.specs.Prelude.{ℕ, ◌+◌, Bool, true, false, nat_lt, if◌then◌else◌}
use Rattle.std.specs.Prelude.{List, [], ◌∷◌, ◌++◌, length, Option, Some, None}
use Rattle.gft_text.specs.Words.{Told, Line, Overlong, told}
use Rattle.gft_reply.specs.declared.reply.Reply.{Reply}
use Rattle.gft_reply.specs.declared.TheConstants.{LINE_COUNT_LIMIT}
use Rattle.gft_reply.specs.Line.{Part, head_of, later_part}

pub data Heard : Type 0 where
  Replied : (reply : Reply) → Heard
  -- a line that can't stand there, one that is too long, or one too many
  Refused : Heard

-- no line of a reply came yet
abbrev pub nothing : Reply
nothing = record { code = 0; lines = [] }

-- what the next line gives: a first line is a head
abbrev pub part_behind : List (List ℕ) → ℕ → List ℕ → Option Part
part_behind [] code line = head_of line
part_behind (text ∷ texts) code line = Some (later_part code (head_of line) line)

-- the reply with one line more
abbrev pub joined : Reply → Part → Reply
joined begun part = record { code = part.code; lines = begun.lines ++ part.text ∷ [] }

abbrev pub joined_then : Bool → Reply → (Reply → List Heard) → List Heard
joined_then true reply next = Replied reply ∷ next nothing
joined_then false reply next = next reply

-- behind a line that stands there comes what follows it
abbrev pub part_then : Reply → Option Part → (Reply → List Heard) → List Heard
part_then begun None next = Refused ∷ []
part_then begun (Some part) next =
    if nat_lt (length begun.lines + 1) LINE_COUNT_LIMIT then joined_then part.ends (joined begun part) next
    else Refused ∷ []

-- what the lines tell behind these lines of a reply
abbrev pub heard : List Told → Reply → List Heard
heard [] begun = []
heard (Overlong ∷ lines) begun = Refused ∷ []
heard (Line line ∷ lines) begun = part_then begun (part_behind begun.lines begun.code line) (heard lines)

-- the replies of a stream
unfoldable pub replies : List ℕ → List Heard
replies stream = heard (told stream) nothing
