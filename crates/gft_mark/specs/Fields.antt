-- How a line of a performance marker states a value (GFD.20, performance markers).
use Rattle.std.specs.Prelude.{◌≡◌, ◌≢◌, ℕ, ◌+◌, ◌-◌, ◌*◌, ◌<◌, ◌^◌, List, [], ◌∷◌, ◌++◌, slice_index}
use Rattle.gft_base.specs.Words.{AreDigits, AreSpaces, IsNumber, digit_zero, dot, parts_at, space}

-- the text doesn't begin with a space
abbrev pub BeginsApart : List ℕ → Type 0
BeginsApart text = slice_index text 0 ≢ space

-- any number of spaces, and the rest, which doesn't begin with one
pub record Skips (text rest : List ℕ) : Type 0 where
  pub spaces : List ℕ
  pub text_is : text ≡ spaces ++ rest
  pub blank : AreSpaces spaces
  pub apart : BeginsApart rest

-- any number of spaces, the name, which ends with its colon, any number of spaces, and the value
pub record IsField (name line value : List ℕ) : Type 0 where
  pub behind : List ℕ
  pub named : Skips line (name ++ behind)
  pub valued : Skips behind value

-- the line states this number under this name, in this grammar of values
pub record States (name : List ℕ) (IsValue : List ℕ → ℕ → Type 0) (line : List ℕ) (n : ℕ) : Type 0 where
  pub value : List ℕ
  pub field : IsField name line value
  pub reads : IsValue value n

-- a number of 16 bits
pub record IsShortNumber (text : List ℕ) (n : ℕ) : Type 0 where
  pub number : IsNumber text n
  pub fits : n < 2 ^ 16

-- one digit or more, the first of which counts tenths
abbrev pub IsFraction : List ℕ → ℕ → Type 0
IsFraction [] tenth = ⊥
IsFraction (digit ∷ digits) tenth = AreDigits (digit ∷ digits) × (tenth ≡ digit - digit_zero)

-- nothing, or one fraction
abbrev pub AreTenths : List (List ℕ) → ℕ → Type 0
AreTenths [] tenth = tenth ≡ 0
AreTenths (fraction ∷ []) tenth = IsFraction fraction tenth
AreTenths (fraction ∷ part ∷ parts) tenth = ⊥

-- a number, and what follows it
abbrev pub AreSeconds : List (List ℕ) → ℕ → ℕ → Type 0
AreSeconds [] seconds tenth = ⊥
AreSeconds (whole ∷ parts) seconds tenth = IsNumber whole seconds × AreTenths parts tenth

-- seconds, and behind a point their fraction: so many whole tenths, in 64 bits
pub record IsTimestamp (text : List ℕ) (tenths : ℕ) : Type 0 where
  pub seconds : ℕ
  pub tenth : ℕ
  pub parts : AreSeconds (parts_at dot text) seconds tenth
  pub value : tenths ≡ 10 * seconds + tenth
  pub fits : tenths < 2 ^ 64
