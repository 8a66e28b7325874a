-- The words of `gridftp make SEED SIZE`.
use Rattle.std.specs.Prelude.{◌≡◌, ℕ, List, [], ◌∷◌, codes}
use Rattle.gft_base.specs.Words.{IsNumber}
use Rattle.gft_words.specs.Options.{IsWithin}
use Rattle.gft_words.specs.declared.client.ClientWords.{ClientWords}
use Rattle.gft_words.specs.declared.client.ClientWords.TheVariants.{Make}

-- two numbers
abbrev pub SaysMake : List ℕ → List ℕ → ClientWords → Type 0
SaysMake seed_text size_text (Make seed size) =
    IsNumber seed_text seed × IsWithin 0 1073741824 size_text size

-- `make` and two numbers; there is no option, and no number is empty or begins with `-`
pub record AreMakeWords (words : List (List ℕ)) (value : ClientWords) : Type 0 where
  pub seed : List ℕ
  pub size : List ℕ
  pub whole : words ≡ codes "make" ∷ seed ∷ size ∷ []
  pub says : SaysMake seed size value
