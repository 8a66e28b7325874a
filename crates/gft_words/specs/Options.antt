-- What the options of a command say.
use Rattle.std.specs.Prelude.{◌≡◌, ℕ, ◌≤◌, List, [], ◌∷◌, length, if◌then◌else◌}
use Rattle.std.specs.List.{AllZip}
use Rattle.std.specs.Str.{bytes_eq}
use Rattle.gft_base.specs.Words.{IsNumber, dot, parts_at}
use Rattle.gft_text.specs.Words.{IsByte}
use Rattle.gft_words.specs.Arguments.{Given, Positional, Keyed}

-- the values that are given to a key
abbrev pub values : List ℕ → List Given → List (List ℕ)
values key [] = []
values key (Positional word ∷ more) = values key more
values key (Keyed other value ∷ more) =
    if bytes_eq other key then value ∷ values key more else values key more

-- the one value that is given, or the default where none is
abbrev pub IsOneOr : {A : Type 0} → (List ℕ → A → Type 0) → A → List (List ℕ) → A → Type 0
IsOneOr Is default [] a = a ≡ default
IsOneOr Is default (value ∷ []) a = Is value a
IsOneOr Is default (value ∷ other ∷ more) a = ⊥

-- a number in a range, both ends with it
pub record IsWithin (least most : ℕ) (text : List ℕ) (n : ℕ) : Type 0 where
  pub number : IsNumber text n
  pub low : least ≤ n
  pub high : n ≤ most

-- the number that is given to a key, or its default
abbrev pub SaysNumber : List ℕ → ℕ → ℕ → ℕ → List Given → ℕ → Type 0
SaysNumber key least most default given n = IsOneOr (IsWithin least most) default (values key given) n

-- four numbers up to 255, with points between them
pub record IsAddress (text host : List ℕ) : Type 0 where
  pub numbers : AllZip IsByte (parts_at dot text) host
  pub four : length host ≡ 4
