-- What options say.
use Rattle.std.proofs.Common.{◌≡◌, ℕ, ◌+◌, ◌<◌, Bool, true, false, suc, zero, List, [], ◌∷◌, ◌++◌, length, length-append, map, get_or, take, refl, ap, cond, arith}
use Rattle.std.specs.List.{AllPass, AllZip}
use Rattle.std.specs.Str.{bytes_eq}
use Rattle.std.proofs.lemmas.List.{map-append, take_more}
use Rattle.gft_base.proofs.Lemmas.{AllZip-length}
use Rattle.gft_text.specs.Words.{IsByte}
use Rattle.gft_words.specs.Arguments.{Given, Keyed, Positional, given_by}
use Rattle.gft_words.specs.Lookups.{IsLookup}
use Rattle.gft_words.specs.declared.arguments.Argument.{Argument}
use Rattle.gft_words.specs.declared.options.Lookup.{Lookup}
use Rattle.gft_words.specs.Options.{values}

pub values-append : (key : List ℕ) (xs ys : List Given) → values key (xs ++ ys) ≡ values key xs ++ values key ys
values-append key [] ys = refl
values-append key (Positional word ∷ xs) ys = values-append key xs ys
values-append key (Keyed other value ∷ xs) ys = either (bytes_eq other key) (values-append key xs ys) where
  either : (same : Bool) → values key (xs ++ ys) ≡ values key xs ++ values key ys → cond same (value ∷ values key (xs ++ ys)) (values key (xs ++ ys)) ≡ cond same (value ∷ values key xs) (values key xs) ++ values key ys
  either true behind = ap (λ (x : List (List ℕ)). value ∷ x) behind
  either false behind = behind

-- one argument more
pub look_more : (found result : Lookup) (key : List ℕ) (xs : List Argument) (i : ℕ) (d : Argument) → i < length xs → ((before : List (List ℕ)) → IsLookup found before → IsLookup result (before ++ values key (given_by (get_or xs i d) ∷ []))) → IsLookup found (values key (map given_by (take i xs))) → IsLookup result (values key (map given_by (take (i + 1) xs)))
look_more found result key xs i d lt step is =
    rw (take_more xs i d lt, map-append, values-append key (map given_by (take i xs)) (given_by (get_or xs i d) ∷ [])) (step (values key (map given_by (take i xs))) is)

pub AllPass-map : {A B : Type 0} (p : B → Bool) (f : A → B) (xs : List A) → AllPass (λ x. p (f x)) xs → AllPass p (map f xs)
AllPass-map p f [] all k d lt = absurd (omega (arith, lt))
AllPass-map p f (x ∷ xs) all zero d lt = all 0 x (omega arith)
AllPass-map p f (x ∷ xs) all (suc k) d lt = AllPass-map p f xs (λ j e l. all (suc j) e (omega (arith, l))) k d (omega (arith, lt))

pub AllPass-unmap : {A B : Type 0} (p : B → Bool) (f : A → B) (xs : List A) → AllPass p (map f xs) → AllPass (λ x. p (f x)) xs
AllPass-unmap p f [] all k d lt = absurd (omega (arith, lt))
AllPass-unmap p f (x ∷ xs) all zero d lt = all 0 (f x) (omega arith)
AllPass-unmap p f (x ∷ xs) all (suc k) d lt = AllPass-unmap p f xs (λ j e l. all (suc j) e (omega (arith, l))) k d (omega (arith, lt))

-- as many parts as there are numbers: those done, and those left
pub parts_count : (parts done left : List (List ℕ)) (vs ns : List ℕ) → parts ≡ done ++ left → AllZip IsByte done vs → AllZip IsByte parts ns → length vs + length left ≡ length ns
parts_count parts done left vs ns same all_done all =
    omega (arith, AllZip-length IsByte done vs all_done, AllZip-length IsByte parts ns all, ap length same, length-append done left)
