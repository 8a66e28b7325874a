-- Where a reader of lines stands in its stream, and what is still to come.
use Rattle.std.specs.Prelude.{◌≡◌, ℕ, ◌+◌, ◌<◌, ◌≤◌, Bool, true, false, MatchBool, if◌then◌else◌}
use Rattle.std.specs.Prelude.{List, [], ◌∷◌, ◌++◌, length, take}
use Rattle.std.specs.Str.Lines.{strip_carriage_return}
use Rattle.gft_base.specs.Words.{Lacks, line_feed}
use Rattle.gft_text.specs.LineStream.{Told, Line, Overlong, told}
use Rattle.gft_text.specs.declared.TheConstants.{LINE_LIMIT}
use Rattle.gft_text.specs.declared.lines.Fed.{Fed}

-- what contracts see of `Lines`
pub record Held : Type 0 where
  -- the bytes taken since the last line's end, without the LF
  pub bytes : List ℕ
  -- whether an LF ended them
  pub whole : Bool

-- the bytes that the next ones go on from: none behind a whole line
abbrev pub line_begun : Held → List ℕ
line_begun held = if held.whole then [] else held.bytes

-- what the stream still tells, if these are the bytes that follow
abbrev pub lines_to_come : Held → List ℕ → List Told
lines_to_come held later = told (line_begun held ++ later)

-- the bytes without the line's end
abbrev pub shown : Held → List ℕ
shown held = if held.whole then strip_carriage_return held.bytes else held.bytes

-- so many bytes came without an LF that nothing more is taken
abbrev pub IsOverlong : Held → Type 0
IsOverlong held = length held.bytes ≡ LINE_LIMIT

-- the bytes before the first LF among the first `room` of the piece, and whether there is one
pub record IsFront (piece : List ℕ) (room : ℕ) (front : List ℕ) (ended : Bool) : Type 0 where
  pub single : Lacks line_feed front
  pub ending : ended ≡ true → (length front < room) × (length front < length piece)
      × (take (length front + 1) piece ≡ front ++ line_feed ∷ [])
  pub unended : ended ≡ false → front ≡ take room piece

-- the bytes up to the next LF are taken, and that LF
pub record TakesLine (old : Held) (piece : List ℕ) (used : ℕ) (new : Held) : Type 0 where
  pub front : List ℕ
  pub taken : take used piece ≡ front ++ line_feed ∷ []
  pub within : used ≤ length piece
  pub first : Lacks line_feed front
  pub bytes : new.bytes ≡ line_begun old ++ front
  pub whole : new.whole ≡ true

-- there is no LF in the piece, and all of it is taken
pub record TakesAll (old : Held) (piece : List ℕ) (used : ℕ) (new : Held) : Type 0 where
  pub taken : used ≡ length piece
  pub unended : Lacks line_feed piece
  pub bytes : new.bytes ≡ line_begun old ++ piece
  pub more : new.whole ≡ false

abbrev pub Feeds : Held → List ℕ → Fed → Held → Type 0
Feeds old piece fed new =
    MatchBool fed.whole (TakesLine old piece fed.used new) (TakesAll old piece fed.used new)

-- what a feed tells: the line that it ended
abbrev pub lines_told : Fed → Held → List Told
lines_told fed new = if fed.whole then Line (shown new) ∷ [] else []

-- the feed tells what these bytes of the stream tell, and the rest is still to come
pub record CarriesLine (old : Held) (piece : List ℕ) (fed : Fed) (new : Held) : Type 0 where
  pub all : (later : List ℕ) →
      lines_to_come old (take fed.used piece ++ later) ≡ lines_told fed new ++ lines_to_come new later
  -- a stream that ends here tells nothing more
  pub settled : lines_to_come new [] ≡ []

-- the first bytes of a line, as many as the limit, are without an LF; behind them nothing is told
pub record Overruns (old : Held) (piece : List ℕ) (new : Held) : Type 0 where
  pub bytes : new.bytes ≡ take LINE_LIMIT (line_begun old ++ piece)
  pub unended : Lacks line_feed new.bytes
  pub overlong : IsOverlong new
  pub comes : (later : List ℕ) → lines_to_come old (piece ++ later) ≡ Overlong ∷ []
  pub stays : (later : List ℕ) → lines_to_come new later ≡ Overlong ∷ []
