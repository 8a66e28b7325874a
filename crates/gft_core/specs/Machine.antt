-- What the plain machine keeps, and the lists of events that it stands for.
use Rattle.std.specs.Prelude.{◌≡◌, ℕ, ◌↔◌, ◌&&◌, ◌||◌, nat_le, nat_lt, List, [], ◌∷◌, Option, Some, None}
use Rattle.std.specs.Prelude.{Bool, true, false, if◌then◌else◌}
use Rattle.gft_range.specs.declared.Range.{Range}
use Rattle.gft_range.specs.Words.{HasOffset, InRange}
use Rattle.gft_core.specs.declared.event.CoreEvent.{CoreEvent}
use Rattle.gft_core.specs.declared.event.CoreEvent.TheVariants as event
use Rattle.gft_core.specs.declared.progress.Progress.{Progress}
use Rattle.gft_core.specs.declared.taken.Found.{Found}
use Rattle.gft_core.specs.declared.taken.Taken.{Taken}
use Rattle.gft_core.specs.declared.taken.Taken.TheVariants.{Block, Crash}
use Rattle.gft_core.specs.Kept.{first_some, byte_at, earliest, kept, Booked}
use Rattle.gft_core.specs.Progress.{Tells}

-- the range has the offset, if there is one
abbrev pub IsInside : Option Range → ℕ → Type 0
IsInside (Some r) x = InRange r x
IsInside None x = ⊥

-- a range of the list has the offset
abbrev pub has_offset : List Range → ℕ → Bool
has_offset [] x = false
has_offset (r ∷ rs) x = (nat_le r.start x && nat_lt x r.end) || has_offset rs x

abbrev pub left_of : Option ℕ → Found
left_of byte = record { earliest = byte; kept = byte }

-- what is found at x behind one entry more
abbrev pub found_after : Found → Taken → ℕ → Found
found_after found (Block offset bytes unanswered) x = record {
  earliest = first_some found.earliest (byte_at offset bytes x);
  kept = if unanswered then found.kept else first_some found.kept (byte_at offset bytes x);
}
found_after found (Crash ranges) x = left_of (if has_offset ranges.ranges x then found.earliest else None)

abbrev pub found_in : Found → List Taken → ℕ → Found
found_in found [] x = found
found_in found (entry ∷ later) x = found_in (found_after found entry x) later x

-- no block and no crash
abbrev pub BringsNoByte : CoreEvent → Type 0
BringsNoByte (event.Block lane channel offset bytes unanswered) = ⊥
BringsNoByte (event.Crash image) = ⊥
BringsNoByte e = Unit {0}

abbrev pub has_begun : List CoreEvent → Bool
has_begun [] = false
has_begun (e ∷ older) = true

pub record State : Type 0 where
  -- the blocks and crashes of the last generation, in the order in which they came
  pub entries : List Taken
  -- the offsets of these blocks that no crash lost; open ones count
  pub found : List Range
  pub booked : List Range
  pub progress : Progress
  -- an event came
  pub has_begun : Bool

-- the events, the newest first, leave the machine so: its entries have what they kept, its sets are what they
-- found and booked, and their last transfer stands as it says
pub record Stands (events : List CoreEvent) (state : State) : Type 0 where
  pub bytes : (x : ℕ) → found_in (left_of None) state.entries x
      ≡ record { earliest = earliest events x; kept = kept events x }
  pub found : (x : ℕ) → HasOffset state.found x ↔ ((v : ℕ) × (earliest events x ≡ Some v))
  pub booked : (x : ℕ) → HasOffset state.booked x ↔ Booked events x
  pub progress : Tells events state.progress
  pub begun : state.has_begun ≡ has_begun events
