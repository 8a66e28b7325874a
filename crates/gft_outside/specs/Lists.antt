-- What the memory forms of controls and lanes share: a list of items, how much of it was given, and the calls
-- that fail.
use Rattle.std.specs.Prelude.{◌≡◌, ℕ, ◌+◌, ◌-◌, ◌<◌, ◌≤◌, ◌==◌, Bool, true, false, nat_lt, List, [], ◌∷◌}
use Rattle.std.specs.Prelude.{length, take, drop, reverse, flat_map, Result, Ok, Err}
use Rattle.std.specs.List.{list_any}
use Rattle.gft_base.specs.Words.{one_more}

-- the numbers of the calls that fail, and how many calls there were
pub record Failures : Type 0 where
  pub numbers : List ℕ
  pub calls : ℕ

-- the next call is one that fails
abbrev pub fails_next : Failures → Bool
fails_next failing = list_any (λ number. number == one_more failing.calls) failing.numbers

abbrev pub counted : Failures → Failures
counted failing = record failing { calls = one_more failing.calls }

-- a call was counted, and it failed where it was to
abbrev pub FailsBy : {T E : Type 0} → Failures → Failures → Result T E → Type 0
FailsBy old new (Ok value) = (new ≡ record old { calls = one_more old.calls }) × (fails_next old ≡ false)
FailsBy old new (Err error) = (new ≡ record old { calls = one_more old.calls }) × (fails_next old ≡ true)

-- all that is told, in order, and how much of it was given
pub record Script (A : Type 0) : Type 0 where
  pub all : List A
  pub place : ℕ

-- what comes next was given, listed newest first
pub record Moves {A : Type 0} (old new : Script A) (given : List A) : Type 0 where
  pub same : new.all ≡ old.all
  pub later : old.place < new.place
  pub within : new.place ≤ length old.all
  pub newest_first : given ≡ reverse (take (new.place - old.place) (drop old.place old.all))

module _ {X A : Type 0} (inputs : X → List A) where
  -- the item tells something
  abbrev pub tells : X → Bool
  tells item = nat_lt 0 (length (inputs item))

  abbrev pub AllTell : List X → Type 0
  AllTell [] = Unit {0}
  AllTell (item ∷ items) = (0 < length (inputs item)) × AllTell items

  -- so much of the first of these items was given, and not all of it
  abbrev pub StandsIn : ℕ → List X → Type 0
  StandsIn used [] = used ≡ 0
  StandsIn used (item ∷ items) = used < length (inputs item)

  -- how much was given, if it is all of the items before one, and so much of that
  abbrev pub place_in : List X → ℕ → ℕ → ℕ
  place_in items at used = length (flat_map inputs (take at items)) + used
