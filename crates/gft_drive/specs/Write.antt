-- What a write and a cut do to the bytes of a part, when they are done and when a crash cuts them
-- short. A byte past the end counts as 0.
use Rattle.std.specs.Prelude.{◌≡◌, ℕ, ◌+◌, ◌<◌, ◌≤◌, min, max, List, length, take, slice_index}

-- these bytes stand at this place, zeros between it and an earlier end, and all else stays
pub record Written (at : ℕ) (bytes old new : List ℕ) : Type 0 where
  pub inside : (k : ℕ) → k < length bytes → slice_index new (at + k) ≡ slice_index bytes k
  pub before : (x : ℕ) → x < at → slice_index new x ≡ slice_index old x
  pub after : (x : ℕ) → at + length bytes ≤ x → slice_index new x ≡ slice_index old x
  pub size : length new ≡ max (length old) (at + length bytes)

-- any bytes stand in the n at this place and past the old end, at any length up to that of the
-- write, and all else stays
pub record Torn (at n : ℕ) (old new : List ℕ) : Type 0 where
  pub before : (x : ℕ) → x < length old → x < at → slice_index new x ≡ slice_index old x
  pub after : (x : ℕ) → x < length old → at + n ≤ x → slice_index new x ≡ slice_index old x
  pub no_shorter : length old ≤ length new
  pub no_longer : length new ≤ max (length old) (at + n)

-- the first bytes are left, all if there are no more
abbrev pub CutTo : ℕ → List ℕ → List ℕ → Type 0
CutTo len old new = new ≡ take len old

-- any length not below this one and not above the old one is left, and the bytes below this one stay
pub record TornCut (len : ℕ) (old new : List ℕ) : Type 0 where
  pub before : (x : ℕ) → x < length old → x < len → slice_index new x ≡ slice_index old x
  pub no_shorter : min (length old) len ≤ length new
  pub no_longer : length new ≤ length old

abbrev pub Same : List ℕ → List ℕ → Type 0
Same old new = new ≡ old

abbrev pub Anything : List ℕ → List ℕ → Type 0
Anything old new = Unit {0}

-- all bytes but the n at this place are the same
pub record DiffersIn (at n : ℕ) (old new : List ℕ) : Type 0 where
  pub before : (x : ℕ) → x < at → slice_index new x ≡ slice_index old x
  pub after : (x : ℕ) → at + n ≤ x → slice_index new x ≡ slice_index old x
  pub size : length new ≡ length old
