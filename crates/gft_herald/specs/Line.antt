-- What contracts see of a line's ends. A mark is the list of the ranges that it names.
use denote.RawPtr.{Ptr}
use Rattle.std.specs.Prelude.{◌≡◌, ℕ, ◌≤◌, List, ◌∷◌, [], ◌++◌, length, map}
use Rattle.std.specs.Global.{Global}
use Rattle.rtrb.specs.Shared.{Names}
use Rattle.rtrb.specs.Ring.{sent, known_free, received}
use Rattle.rtrb.specs.declared.end.End.{End}
use Rattle.rtrb.specs.declared.producer.Producer.{Producer}
use Rattle.rtrb.specs.declared.consumer.Consumer.{Consumer}
use Rattle.gft_range.specs.declared.Range.{Range}
use Rattle.gft_range.specs.declared.TheConstants.{MAX_ITEMS}
use Rattle.gft_range.specs.Words.{KeptRanges}
use Rattle.gft_herald.specs.declared.ends.Next.{Next}
use Rattle.gft_herald.specs.declared.ends.Next.TheVariants as next

-- which line it is: what no other one shares with it
pub record LineId : Type 0 where
  pub words : Ptr
  pub slots : Ptr
  pub names : Names
  pub heap : Global

-- the end with the Book
pub record Pushed : Type 0 where
  pub line : LineId
  -- the marks that were pushed
  pub marks : List (List Range)
  -- for how many more there is room at least
  pub free : ℕ

-- the teller's end
pub record Taken : Type 0 where
  pub line : LineId
  -- the marks that were taken
  pub marks : List (List Range)

abbrev pub line_of : {T P : Type 0} → End T Global P → LineId
line_of e = record { words = e.words; slots = e.slots; names = e.names; heap = e.heap }

abbrev pub ranges_of : List KeptRanges → List (List Range)
ranges_of sets = map (λ s. s.ranges) sets

abbrev pub pushed_by : {P : Type 0} → Producer KeptRanges Global P → Pushed
pushed_by p = record { line = line_of p.end; marks = ranges_of (sent p); free = known_free p }

abbrev pub taken_by : {P : Type 0} → Consumer KeptRanges Global P → Taken
taken_by c = record { line = line_of c.end; marks = ranges_of (received c) }

-- a mark names as many ranges as a marker has room for, and at least one
abbrev pub IsNamed : List Range → Type 0
IsNamed ranges = (1 ≤ length ranges) × (length ranges ≤ MAX_ITEMS)

-- nothing was pushed
abbrev pub SamePushed : Pushed → Pushed → Type 0
SamePushed old new = (new.line ≡ old.line) × (new.marks ≡ old.marks)

-- this mark was taken, and no other
pub record TakesOne (old new : Taken) (ranges : List Range) : Type 0 where
  pub line : new.line ≡ old.line
  pub marks : new.marks ≡ old.marks ++ ranges ∷ []
  pub named : IsNamed ranges

-- what comes is taken
abbrev pub TakesNext : Taken → Taken → Next → Type 0
TakesNext old new (next.Mark set) = TakesOne old new set.ranges
TakesNext old new other = new ≡ old

-- what was taken is the front of what was pushed, and the others were not taken yet
pub record IsFrontOf (pushed : Pushed) (taken : Taken) : Type 0 where
  pub left : List (List Range)
  pub front : pushed.marks ≡ taken.marks ++ left
