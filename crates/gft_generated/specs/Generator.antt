-- The generated file: multiplicative hashing, of which the top byte of 32 bits is taken.
use Rattle.std.specs.Prelude.{ℕ, zero, suc, ◌+◌, ◌*◌, ◌%◌, ◌/◌, ◌^◌, List, [], ◌∷◌}

-- the byte that a count makes
abbrev pub mixed : ℕ → ℕ
mixed count = count % (2 ^ 32) * 2654435761 % (2 ^ 32) / (2 ^ 24)

-- the byte at this place of the file of this seed
abbrev pub generated_byte : ℕ → ℕ → ℕ
generated_byte seed x = mixed (seed + x)

-- so many bytes of it, from this place on
abbrev pub generated : ℕ → ℕ → ℕ → List ℕ
generated seed at zero = []
generated seed at (suc n) = generated_byte seed at ∷ generated seed (suc at) n
