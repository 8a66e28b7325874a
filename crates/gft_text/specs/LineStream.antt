-- What a stream tells, line by line (RFC 959, section 5.3: a line ends with CR and LF; an LF alone ends one
-- too).
use Rattle.std.specs.Prelude.{ℕ, nat_lt, if◌then◌else◌, List, [], ◌∷◌, length}
use Rattle.std.specs.Str.Lines.{strip_carriage_return}
use Rattle.gft_base.specs.Words.{line_feed, parts_at}
use Rattle.gft_text.specs.declared.TheConstants.{LINE_LIMIT}

pub data Told : Type 0 where
  -- a line, without its end
  Line : (bytes : List ℕ) → Told
  -- a line that is too long
  Overlong : Told

-- a part is a line if an LF follows it; behind the last LF there is none yet
abbrev pub told_of : List ℕ → List (List ℕ) → List Told → List Told
told_of part [] next = []
told_of part (following ∷ parts) next = Line (strip_carriage_return part) ∷ next

-- the parts between the LFs, up to one that is too long
abbrev pub told_of_parts : List (List ℕ) → List Told
told_of_parts [] = []
told_of_parts (part ∷ parts) =
    if nat_lt (length part) LINE_LIMIT then told_of part parts (told_of_parts parts) else Overlong ∷ []

-- the lines of a stream, in order
unfoldable pub told : List ℕ → List Told
told stream = told_of_parts (parts_at line_feed stream)
