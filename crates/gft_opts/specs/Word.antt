-- Words that are read in any letter case.
use Rattle.std.specs.Prelude.{◌≡◌, ℕ, List}
use Rattle.gft_text.specs.Words.{folded}

-- the text is this word, in any case of its letters
abbrev pub IsWord : List ℕ → List ℕ → Type 0
IsWord word text = folded word ≡ folded text
