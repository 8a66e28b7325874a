-- Telnet's bytes.
use Rattle.std.proofs.Common.{◌≡◌, ℕ, ◌+◌, Option, Some, None, Bool, true, false, not, cond, eqb, List, [], ◌∷◌, ◌++◌, length, zero, suc, refl, ap, sym, ◌∙◌, arith}
use Rattle.std.specs.List.{All, count_by, position}
use Rattle.std.specs.Option.{is_some}
use Rattle.std.proofs.lemmas.List.Sums.{sum_by-cons}
use Rattle.gft_base.proofs.Lemmas.{position-None, position-none_from}
use Rattle.gft_base.specs.Words.{Lacks}
use Rattle.gft_command.specs.Telnet.{undoubled, doubled}

-- no byte of it is 255
abbrev pub IsPlain : List ℕ → Type 0
IsPlain text = All (λ b. eqb b 255 ≡ false) text

plain_rest : (b : ℕ) (bs : List ℕ) → IsPlain (b ∷ bs) → IsPlain bs
plain_rest b bs plain = λ k d lt. plain (suc k) d (omega (arith, lt))

plain_first : (b : ℕ) (bs : List ℕ) → IsPlain (b ∷ bs) → eqb b 255 ≡ false
plain_first b bs plain = plain zero b (omega arith)

pub doubled-plain : (text : List ℕ) → IsPlain text → doubled text ≡ text
doubled-plain [] plain = refl
doubled-plain (b ∷ bs) plain = rw (plain_first b bs plain) (ap (λ (x : List ℕ). b ∷ x) (doubled-plain bs (plain_rest b bs plain)))

pub undoubled-cons : (b : ℕ) (bs : List ℕ) → eqb b 255 ≡ false → undoubled (b ∷ bs) ≡ b ∷ undoubled bs
undoubled-cons b [] other = refl
undoubled-cons b (c ∷ bs) other = rw other refl

pub undoubled-plain : (text : List ℕ) → IsPlain text → undoubled text ≡ text
undoubled-plain [] plain = refl
undoubled-plain (b ∷ bs) plain = undoubled-cons b bs (plain_first b bs plain) ∙ ap (λ (x : List ℕ). b ∷ x) (undoubled-plain bs (plain_rest b bs plain))

-- what was doubled is undoubled again
pub undoubled-doubled : (text : List ℕ) → undoubled (doubled text) ≡ text
undoubled-doubled [] = refl
undoubled-doubled (b ∷ bs) = first (eqb b 255) refl (undoubled-doubled bs) where
  first : (t : Bool) → eqb b 255 ≡ t → undoubled (doubled bs) ≡ bs → undoubled (cond t (b ∷ b ∷ doubled bs) (b ∷ doubled bs)) ≡ b ∷ bs
  first true same again = rw same (ap (λ (x : List ℕ). b ∷ x) again)
  first false same again = undoubled-cons b (doubled bs) same ∙ ap (λ (x : List ℕ). b ∷ x) again

pub doubled-append : (a b : List ℕ) → doubled (a ++ b) ≡ doubled a ++ doubled b
doubled-append [] b = refl
doubled-append (x ∷ a) b = first (eqb x 255) (doubled-append a b) where
  first : (t : Bool) → doubled (a ++ b) ≡ doubled a ++ doubled b → cond t (x ∷ x ∷ doubled (a ++ b)) (x ∷ doubled (a ++ b)) ≡ cond t (x ∷ x ∷ doubled a) (x ∷ doubled a) ++ doubled b
  first true same = ap (λ (y : List ℕ). x ∷ x ∷ y) same
  first false same = ap (λ (y : List ℕ). x ∷ y) same

-- one byte more for each 255
pub doubled_len : (text : List ℕ) → length text + count_by (λ b. eqb b 255) text ≡ length (doubled text)
doubled_len [] = refl
doubled_len (b ∷ bs) = first (eqb b 255) (doubled_len bs) (sum_by-cons (λ x. cond (eqb x 255) 1 0) b bs) where
  first : (t : Bool) → length bs + count_by (λ x. eqb x 255) bs ≡ length (doubled bs) → count_by (λ x. eqb x 255) (b ∷ bs) ≡ cond t 1 0 + count_by (λ x. eqb x 255) bs → length (b ∷ bs) + count_by (λ x. eqb x 255) (b ∷ bs) ≡ length (cond t (b ∷ b ∷ doubled bs) (b ∷ doubled bs))
  first true same step = omega (arith, same, step)
  first false same step = omega (arith, same, step)

-- what `is_none` answers
nothing : {A : Type 0} (at : Option A) (b : Bool) → is_some at ≡ not b → b ≡ true → at ≡ None
nothing None b answer holds = refl
nothing (Some x) b answer holds = absurd (cc (answer, ap not holds))

says_none : {A : Type 0} (at : Option A) (b : Bool) → is_some at ≡ not b → at ≡ None → b ≡ true
says_none at true answer none = refl
says_none at false answer none = absurd (cc (answer, ap is_some none))

-- what has no byte 255 stays as it is
pub plain_same : (text : List ℕ) (at : Option ℕ) (b : Bool) → at ≡ position (λ x. eqb x 255) text → is_some at ≡ not b → b ≡ true → (doubled text ≡ text) × (undoubled text ≡ text)
plain_same text at b at_is answer holds =
    let plain = position-None (λ x. eqb x 255) text (sym at_is ∙ nothing at b answer holds) in
    (doubled-plain text plain, undoubled-plain text plain)

-- a byte that isn't found isn't there, and the other way round
pub lacks_from : (c : ℕ) (text : List ℕ) (at : Option ℕ) (b : Bool) → at ≡ position (λ x. eqb x c) text → is_some at ≡ not b → b ≡ true → Lacks c text
lacks_from c text at b at_is answer holds = position-None (λ x. eqb x c) text (sym at_is ∙ nothing at b answer holds)

pub none_from : (c : ℕ) (text : List ℕ) (at : Option ℕ) (b : Bool) → at ≡ position (λ x. eqb x c) text → is_some at ≡ not b → Lacks c text → b ≡ true
none_from c text at b at_is answer lacks = says_none at b answer (at_is ∙ position-none_from (λ x. eqb x c) text lacks)
