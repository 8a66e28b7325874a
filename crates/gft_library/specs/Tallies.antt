-- The memory form of a tally.
use Rattle.std.specs.Prelude.{ℕ, Bool, true, false, nat_lt, if◌then◌else◌, List, [], ◌∷◌, ◌++◌, length}
use Rattle.std.specs.Prelude.{reverse, Option, None, Some}
use Rattle.gft_library.specs.Answers.{NamedWord}

pub record TallyList : Type 0 where
  -- the answers that are kept, in the order in which they came
  pub answers : List NamedWord
  pub room : ℕ
  -- an answer came for which there was no room
  pub is_full : Bool

abbrev pub new_tally : ℕ → TallyList
new_tally room = record { answers = []; room = room; is_full = false }

-- the newest first
abbrev pub told_by : TallyList → Option (List NamedWord)
told_by tally = if tally.is_full then None else Some (reverse tally.answers)

abbrev pub takes_answer : TallyList → NamedWord → TallyList
takes_answer tally answer =
    if nat_lt (length tally.answers) tally.room
    then record tally { answers = tally.answers ++ answer ∷ [] }
    else record tally { is_full = true }
