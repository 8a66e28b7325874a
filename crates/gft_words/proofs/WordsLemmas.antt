-- Words that are written out.
use Rattle.std.proofs.Common.{◌≡◌, ◌<◌, ◌≤◌, List, [], ◌∷◌, length, get_or, refl, arith}
use Rattle.std.specs.Prelude.{String, string_bytes}
use Rattle.std.specs.declared.alloc.Global.{Global}
use Rattle.gft_words.specs.Arguments.{texts}

pub two_words : (words : List (String Global)) (a b : String Global) → 2 ≤ length words → length words < 3 → a ≡ get_or words 0 a → b ≡ get_or words 1 b → texts words ≡ string_bytes a ∷ string_bytes b ∷ []
two_words [] a b low high first second = absurd (omega (arith, low))
two_words (x ∷ []) a b low high first second = absurd (omega (arith, low))
two_words (x ∷ y ∷ []) a b low high first second = let one : a ≡ x = first in let two : b ≡ y = second in rw (one, two) refl
two_words (x ∷ y ∷ z ∷ words) a b low high first second = absurd (omega (arith, high))

pub three_words : (words : List (String Global)) (a b c : String Global) → 3 ≤ length words → length words < 4 → a ≡ get_or words 0 a → b ≡ get_or words 1 b → c ≡ get_or words 2 c → texts words ≡ string_bytes a ∷ string_bytes b ∷ string_bytes c ∷ []
three_words [] a b c low high first second third = absurd (omega (arith, low))
three_words (x ∷ words) a b c low high first second third =
    let one : a ≡ x = first in
    rw (one, two_words words b c (omega (arith, low)) (omega (arith, high)) second third) refl
