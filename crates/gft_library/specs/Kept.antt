-- Names, each with what is kept under it.
use Rattle.std.specs.Prelude.{◌≡◌, ◌≢◌, ℕ, ◌+◌, ◌<◌, Bool, List, [], ◌∷◌, length, Option, None, Some}
use Rattle.std.specs.Prelude.{slice_get, if◌then◌else◌, nat_eq}
use Rattle.std.specs.Cmp.Lexicographic.{pointwise}
use Rattle.gft_library.specs.declared.list.KeptName.{KeptName}

abbrev pub is_under : {T : Type 0} → List ℕ → KeptName T → Bool
is_under name entry = pointwise nat_eq entry.name name

-- what is kept under a name
abbrev pub kept_under : {T : Type 0} → List (KeptName T) → List ℕ → Option T
kept_under [] name = None
kept_under (first ∷ rest) name = if is_under name first then Some first.holding else kept_under rest name

-- no name is kept twice
abbrev pub AreApart : {T : Type 0} → List (KeptName T) → Type 0
AreApart [] = Unit {0}
AreApart (first ∷ rest) = (kept_under rest first.name ≡ None) × AreApart rest

abbrev pub count_of : {T : Type 0} → Option T → ℕ
count_of None = 0
count_of (Some holding) = 1

-- a call about a name: each other name has what it had, and is kept if it was
pub record OnlyUnder {T : Type 0} (old new : List (KeptName T)) (name : List ℕ) : Type 0 where
  pub others : (other : List ℕ) → other ≢ name → kept_under new other ≡ kept_under old other
  pub many : length new + count_of (kept_under old name) ≡ length old + count_of (kept_under new name)

-- what was kept under the name, if anything was, is replaced by this
abbrev pub in_place : {T : Type 0} → Option T → T → Option T
in_place None holding = None
in_place (Some old) holding = Some holding

pub record Puts {T : Type 0} (old new : List (KeptName T)) (name : List ℕ) (holding : T) : Type 0 where
  pub under : kept_under new name ≡ in_place (kept_under old name) holding
  pub only : OnlyUnder old new name

pub record Adds {T : Type 0} (old new : List (KeptName T)) (name : List ℕ) (holding : T) : Type 0 where
  pub under : kept_under new name ≡ Some holding
  pub only : OnlyUnder old new name

pub record LetsGo {T : Type 0} (old new : List (KeptName T)) (name : List ℕ) : Type 0 where
  pub under : kept_under new name ≡ None
  pub only : OnlyUnder old new name

-- the name stands at this place
pub record StandsAt {T : Type 0} (kept : List (KeptName T)) (name : List ℕ) (place : ℕ) : Type 0 where
  pub below : place < length kept
  pub entry : KeptName T
  pub there : slice_get kept place ≡ Some entry
  pub named : entry.name ≡ name
