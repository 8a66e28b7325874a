-- The words of `gridftpd drain NAME`.
use Rattle.std.specs.Prelude.{◌≡◌, ℕ, List, [], ◌∷◌, codes, String, string_bytes}
use Rattle.std.specs.declared.alloc.Global.{Global}
use Rattle.gft_text.specs.Words.{IsName}

abbrev pub AreDrainWords : List (String Global) → Type 0
AreDrainWords (verb ∷ name ∷ []) = (string_bytes verb ≡ codes "drain") × IsName (string_bytes name)
AreDrainWords _ = ⊥

-- the bytes of the word that names the file
abbrev pub name_in : List (String Global) → List ℕ
name_in (verb ∷ name ∷ []) = string_bytes name
name_in _ = []
