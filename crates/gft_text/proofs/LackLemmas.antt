-- Texts without a separator.
use Rattle.std.proofs.Common.{◌≡◌, ℕ, ◌<◌, ◌^◌, true, false, not, eqb, List, ◌∷◌, ◌++◌}
use Rattle.std.specs.Fmt.{decimal}
use Rattle.std.specs.List.{list_all}
use Rattle.std.proofs.lemmas.Bool.{not-true}
use Rattle.std.proofs.lemmas.List.Elements.{All-append, All-cons}
use Rattle.std.proofs.lemmas.List.Sums.{AllPass-from_list_all}
use Rattle.gft_base.specs.Words.{Lacks, digit_zero}
use Rattle.gft_base.proofs.Lemmas.{IsNumber-decimal, digits_apart}

-- a literal text is looked through
pub literal_lacks : (c : ℕ) (bs : List ℕ) → list_all (λ b. not (eqb b c)) bs ≡ true → Lacks c bs
literal_lacks c bs all = λ k d lt. not-true _ (AllPass-from_list_all (λ b. not (eqb b c)) bs all k d lt)

-- a number has no separator below the digits
pub decimal_lacks : (c n : ℕ) → c < digit_zero → n < 2 ^ 64 → Lacks c (decimal n)
decimal_lacks c n below fits = digits_apart c (decimal n) below (IsNumber-decimal n fits).digits

-- two texts with another separator between them
pub lacks_joined : (c s : ℕ) (x y : List ℕ) → eqb s c ≡ false → Lacks c x → Lacks c y → Lacks c (x ++ s ∷ y)
lacks_joined c s x y apart in_x in_y = All-append (λ b. eqb b c ≡ false) x (s ∷ y) in_x (All-cons (λ b. eqb b c ≡ false) s y apart in_y)
