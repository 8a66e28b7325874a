-- Tables of words.
use Rattle.std.specs.Prelude.{◌≡◌, ℕ, Bool, true, false, not, ◌&&◌, ◌==◌, List, [], ◌∷◌, map}
use Rattle.std.specs.Char.{to_ascii_lowercase}
use Rattle.std.specs.List.{list_all, All}
use Rattle.gft_text.specs.declared.table.Entry.{Entry}

-- the text with small letters for capitals: the same for two texts that differ in letter case alone
abbrev pub folded : List ℕ → List ℕ
folded text = map to_ascii_lowercase text

-- whether two texts are the same
abbrev pub same_bytes : List ℕ → List ℕ → Bool
same_bytes [] [] = true
same_bytes [] (y ∷ ys) = false
same_bytes (x ∷ xs) [] = false
same_bytes (x ∷ xs) (y ∷ ys) = (x == y) && same_bytes xs ys

-- two entries differ in their text, whatever its case, and in their code
abbrev pub are_apart : Entry → Entry → Bool
are_apart a b = not (same_bytes (folded a.text.now) (folded b.text.now)) && not (a.code == b.code)

-- each entry is apart from those behind it
abbrev pub are_distinct : List Entry → Bool
are_distinct [] = true
are_distinct (e ∷ es) = list_all (are_apart e) es && are_distinct es

-- the entry's text is this one, in any case of its letters
abbrev pub HasText : Entry → List ℕ → Type 0
HasText e text = folded e.text.now ≡ folded text

-- no entry has the text
pub record IsAbsent (es : List Entry) (text : List ℕ) : Type 0 where
  pub differ : All (λ e. ¬ HasText e text) es
