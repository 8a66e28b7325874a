-- The words of a command behind its name: options and positional words, in any order.
use Rattle.std.specs.Prelude.{◌≡◌, ◌≢◌, ℕ, ◌<◌, ◌⊎◌, List, [], ◌∷◌, ◌++◌}
use Rattle.std.specs.Prelude.{length, map, slice_index, String, string_bytes}
use Rattle.std.specs.declared.alloc.Global.{Global}
use Rattle.gft_base.specs.Words.{Lacks, dash, equals_sign}
use Rattle.gft_words.specs.declared.arguments.Argument.{Argument}
use Rattle.gft_words.specs.declared.arguments.Argument.TheVariants as arguments

abbrev pub texts : List (String Global) → List (List ℕ)
texts words = map string_bytes words

-- what one or two words give
pub data Given : Type 0 where
  Positional : (word : List ℕ) → Given
  Keyed : (key value : List ℕ) → Given

abbrev pub given_by : Argument → Given
given_by (arguments.Positional word) = Positional word.now
given_by (arguments.Keyed key value) = Keyed key.now value.now

-- a word that stands for itself: it isn't empty, and doesn't begin with `-`
pub record IsPlain (word : List ℕ) : Type 0 where
  pub some : 0 < length word
  pub plain : slice_index word 0 ≢ dash

-- `key=value`
pub record IsJoined (option key value : List ℕ) (behind rest : List (List ℕ)) : Type 0 where
  pub spelt : option ≡ key ++ equals_sign ∷ value
  pub some : 0 < length value
  pub left : rest ≡ behind

-- `key`, and the value as the next word
pub record IsApart (option key value : List ℕ) (behind rest : List (List ℕ)) : Type 0 where
  pub spelt : option ≡ key
  pub next : behind ≡ value ∷ rest
  pub plain : IsPlain value

-- the two forms of an option, behind its `--`
pub record IsKeyed (option : List ℕ) (behind : List (List ℕ)) (key value : List ℕ)
    (rest : List (List ℕ)) : Type 0 where
  pub single : Lacks equals_sign key
  pub form : IsJoined option key value behind rest ⊎ IsApart option key value behind rest

-- `--key=value` or `--key value`
pub record IsOption (words : List (List ℕ)) (key value : List ℕ) (rest : List (List ℕ)) : Type 0 where
  pub option : List ℕ
  pub behind : List (List ℕ)
  pub begun : words ≡ (dash ∷ dash ∷ option) ∷ behind
  pub keyed : IsKeyed option behind key value rest

-- the words begin with what gives this, and the rest follows
abbrev pub Begins : List (List ℕ) → Given → List (List ℕ) → Type 0
Begins words (Positional word) rest = (words ≡ word ∷ rest) × IsPlain word
Begins words (Keyed key value) rest = IsOption words key value rest

-- the words give this, one after another, up to the rest
abbrev pub Gives : List (List ℕ) → List Given → List (List ℕ) → Type 0
Gives words [] rest = words ≡ rest
Gives words (given ∷ more) rest = (mid : List (List ℕ)) × Begins words given mid × Gives mid more rest
