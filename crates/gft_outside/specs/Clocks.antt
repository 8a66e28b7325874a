-- What a clock tells.
use Rattle.std.specs.Prelude.{◌≡◌, ℕ, List, [], ◌∷◌, Option, Some, None}

-- the next of the readings to come was taken; behind the last one it is 0
abbrev pub Ticks : Option (List ℕ) → Option (List ℕ) → ℕ → Type 0
Ticks None new reading = Unit {0}
Ticks (Some []) new reading = (reading ≡ 0) × (new ≡ Some [])
Ticks (Some (next ∷ later)) new reading = (reading ≡ next) × (new ≡ Some later)
