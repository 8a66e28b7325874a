-- What a look at the values of a key found.
use Rattle.std.specs.Prelude.{◌≡◌, ℕ, ◌<◌, List, [], ◌∷◌, length}
use Rattle.gft_words.specs.declared.options.Lookup.{Lookup}
use Rattle.gft_words.specs.declared.options.Lookup.TheVariants.{Absent, Once, Twice}

abbrev pub IsLookup : Lookup → List (List ℕ) → Type 0
IsLookup Absent values = values ≡ []
IsLookup (Once value) values = values ≡ value.now ∷ []
IsLookup Twice values = 1 < length values
