-- What a put that failed leaves.
use Rattle.std.specs.Prelude.{◌≡◌, ℕ, List, ◌++◌, Option}
use Rattle.std.specs.Io.KnownBytes.{Appends}

-- the list begins with the part
abbrev pub IsPartOf : List ℕ → List ℕ → Type 0
IsPartOf part all = (rest : List ℕ) × (all ≡ part ++ rest)

-- known bytes grow by the first of these
abbrev pub AppendsPart : Option (List ℕ) → Option (List ℕ) → List ℕ → Type 0
AppendsPart old new bytes = (part : List ℕ) × IsPartOf part bytes × Appends old new part
