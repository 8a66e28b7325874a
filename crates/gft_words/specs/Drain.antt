-- The words of `gridftpd drain NAME`.
use Rattle.std.specs.Prelude.{◌≡◌, ℕ, List, [], ◌∷◌, codes}
use Rattle.gft_text.specs.Words.{IsName}

-- two words, of which the second is a name as it stands
pub record AreDrainWords (words : List (List ℕ)) (name : List ℕ) : Type 0 where
  pub whole : words ≡ codes "drain" ∷ name ∷ []
  pub legal : IsName name
