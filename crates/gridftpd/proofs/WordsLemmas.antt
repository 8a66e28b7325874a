-- The words of `drain`.
use Rattle.std.proofs.Common.{◌≡◌, ◌<◌, ◌≤◌, ◌↔◌, Bool, List, [], ◌∷◌, length, get_or, Ok, Err, arith}
use Rattle.std.specs.Prelude.{Result, IfOk, IsTrue, codes, String, string_bytes}
use Rattle.std.specs.declared.alloc.Global.{Global}
use Rattle.gft_text.specs.Words.{IsName}
use Rattle.gridftpd.specs.DrainWords.{AreDrainWords}

-- a list of two
pub two_items : {A : Type 0} (xs : List A) (a b : A) → 2 ≤ length xs → length xs < 3 → a ≡ get_or xs 0 a → b ≡ get_or xs 1 b → xs ≡ a ∷ b ∷ []
two_items [] a b low high first second = absurd (omega (arith, low))
two_items (x ∷ []) a b low high first second = absurd (omega (arith, low))
two_items (x ∷ y ∷ []) a b low high first second = let one : a ≡ x = first in let two : b ≡ y = second in cc
two_items (x ∷ y ∷ z ∷ xs) a b low high first second = absurd (omega (arith, high))

-- behind the verb the second word decides
pub named : {E : Type 0} (verb name : String Global) (r : Result Bool E) → string_bytes verb ≡ codes "drain" → IfOk r (λ right. IsTrue right ↔ IsName (string_bytes name))
    → IfOk r (λ right. IsTrue right ↔ AreDrainWords (verb ∷ name ∷ []))
named verb name (Ok right) same is = (λ yes. (same, is.0 yes), λ both. is.1 both.1)
named verb name (Err error) same is = tt
