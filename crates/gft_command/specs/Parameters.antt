-- The forms of a verb's parameter: which texts have a value, how it is written, and which fit a line.
use Rattle.std.specs.Prelude.{◌≡◌, ◌+◌, ◌<◌, ◌≤◌, ◌==◌, ◌++◌, ◌∷◌, ℕ, List, [], length, codes, decimal}
use Rattle.std.specs.Prelude.{IsTrue}
use Rattle.std.specs.Char.{to_ascii_uppercase, is_ascii_alphabetic}
use Rattle.std.specs.List.{before_first, after_first}
use Rattle.gft_base.specs.Words.{AreSpaces, IsNumber, Lacks, line_feed, parts_at, space}
use Rattle.gft_range.specs.declared.Range.{Range}
use Rattle.gft_range.specs.declared.TheConstants.{MAX_ITEMS}
use Rattle.gft_range.specs.Words.{IsList, items_of, list_text}
use Rattle.gft_text.specs.declared.HostPort.{HostPort}
use Rattle.gft_text.specs.declared.TheConstants.{LINE_LIMIT}
use Rattle.gft_text.specs.Words.{IsHostPort, host_port_text}
use Rattle.gft_opts.specs.declared.Eret.{Eret}
use Rattle.gft_opts.specs.declared.Esto.{Esto}
use Rattle.gft_opts.specs.declared.RetrOptions.{RetrOptions}
use Rattle.gft_opts.specs.declared.TheConstants.{MAX_TARGETS}
use Rattle.gft_opts.specs.declared.OptsError.{OptsError}
use Rattle.gft_opts.specs.Words.{FitsEret, FitsEsto, IsEret, IsEsto, eret_text, esto_text}
use Rattle.gft_opts.specs.Words.{FitsRetr, FitsTargets, IsRetr, IsTargets, retr_text, targets_text}
use Rattle.gft_opts.specs.Words.{IsWord, RefusesOption}
use Rattle.gft_command.specs.Telnet.{doubled}

-- a parameter's value, by its form
pub data Parameter : Type 0 where
  Nothing : Parameter
  Text : List ℕ → Parameter
  Letter : ℕ → Parameter
  Number : ℕ → Parameter
  LeadingNumber : ℕ → Parameter
  Options : RetrOptions → Parameter
  Address : HostPort → Parameter
  Targets : List HostPort → Parameter
  Ranges : List Range → Parameter
  Part : Eret → Parameter
  Place : Esto → Parameter

-- ---- what is read

-- one byte or more, as they are
abbrev pub AreWords : List ℕ → List ℕ → Type 0
AreWords text words = (0 < length text) × (words ≡ text)

-- one letter, read as a capital; then the end, or a space and anything
abbrev pub IsLetter : List ℕ → ℕ → Type 0
IsLetter [] letter = ⊥
IsLetter (b ∷ []) letter = IsTrue (is_ascii_alphabetic b) × (letter ≡ to_ascii_uppercase b)
IsLetter (b ∷ c ∷ bs) letter = IsTrue (is_ascii_alphabetic b) × (c ≡ space) × (letter ≡ to_ascii_uppercase b)

-- a number; then the end, or a space and anything
abbrev pub IsLeadingNumber : List ℕ → ℕ → Type 0
IsLeadingNumber text number = IsNumber (before_first (λ b. b == space) text) number

-- `RETR` in any case of its letters, a space, and options
pub record IsOptions (text : List ℕ) (options : RetrOptions) : Type 0 where
  pub word : IsWord (codes "RETR") (before_first (λ b. b == space) text)
  pub spaced : length (before_first (λ b. b == space) text) < length text
  pub options_are : IsRetr (after_first (λ b. b == space) text) options

-- the text has this value
abbrev pub IsParameter : List ℕ → Parameter → Type 0
IsParameter text Nothing = AreSpaces text
IsParameter text (Text words) = AreWords text words
IsParameter text (Letter letter) = IsLetter text letter
IsParameter text (Number number) = IsNumber text number
IsParameter text (LeadingNumber number) = IsLeadingNumber text number
IsParameter text (Options options) = IsOptions text options
IsParameter text (Address at) = IsHostPort text at
IsParameter text (Targets targets) = IsTargets text targets
IsParameter text (Ranges ranges) = IsList text ranges
IsParameter text (Part eret) = IsEret text eret
IsParameter text (Place esto) = IsEsto text esto

-- ---- what is refused

-- the text has no value of the form of this one
abbrev pub HasNone : List ℕ → Parameter → Type 0
HasNone text Nothing = ¬ AreSpaces text
HasNone text (Text _) = (words : List ℕ) → ¬ AreWords text words
HasNone text (Letter _) = (letter : ℕ) → ¬ IsLetter text letter
HasNone text (Number _) = (number : ℕ) → ¬ IsNumber text number
HasNone text (LeadingNumber _) = (number : ℕ) → ¬ IsLeadingNumber text number
HasNone text (Options _) = (options : RetrOptions) → ¬ IsOptions text options
HasNone text (Address _) = (at : HostPort) → ¬ IsHostPort text at
HasNone text (Targets _) = (targets : List HostPort) → ¬ IsTargets text targets
HasNone text (Ranges _) = (ranges : List Range) → ¬ IsList text ranges
HasNone text (Part _) = (eret : Eret) → ¬ IsEret text eret
HasNone text (Place _) = (esto : Esto) → ¬ IsEsto text esto

-- a value of the form of this one takes memory, and the text could have one
abbrev pub TakesMemory : List ℕ → Parameter → Type 0
TakesMemory text Nothing = ⊥
TakesMemory text (Text _) = 0 < length text
TakesMemory text (Letter _) = ⊥
TakesMemory text (Number _) = ⊥
TakesMemory text (LeadingNumber _) = ⊥
TakesMemory text (Options _) = ⊥
TakesMemory text (Address _) = ⊥
TakesMemory text (Targets _) = length (parts_at space text) ≤ MAX_TARGETS
TakesMemory text (Ranges _) = length (items_of text) ≤ MAX_ITEMS
TakesMemory text (Part _) = (eret : Eret) × IsEret text eret
TakesMemory text (Place _) = (esto : Esto) × IsEsto text esto

-- why the text gave no value of the form of this one
abbrev pub RefusesForm : List ℕ → Parameter → OptsError → Type 0
RefusesForm text value e = RefusesOption (HasNone text value) (TakesMemory text value) e

-- ---- what is written

abbrev pub options_text : RetrOptions → List ℕ
options_text options = codes "RETR " ++ retr_text options

-- the one text of a value
abbrev pub parameter_text : Parameter → List ℕ
parameter_text Nothing = []
parameter_text (Text words) = words
parameter_text (Letter letter) = letter ∷ []
parameter_text (Number number) = decimal number
parameter_text (LeadingNumber number) = decimal number
parameter_text (Options options) = options_text options
parameter_text (Address at) = host_port_text at
parameter_text (Targets targets) = targets_text targets
parameter_text (Ranges ranges) = list_text ranges
parameter_text (Part eret) = eret_text eret
parameter_text (Place esto) = esto_text esto

-- what stands behind a verb: a space and the value's text, if there is a value
abbrev pub behind_verb : Parameter → List ℕ
behind_verb Nothing = []
behind_verb value = space ∷ parameter_text value

-- ---- what fits

abbrev pub IsCapital : ℕ → Type 0
IsCapital letter = (65 ≤ letter) × (letter ≤ 90)

-- the line is no two lines and, with its CR, isn't too long
abbrev pub IsSendable : List ℕ → Type 0
IsSendable line = Lacks line_feed line × (length line + 1 < LINE_LIMIT)

-- the bytes stand in one line behind this verb and a space, and with its CR it isn't too long
abbrev pub FitsBytes : List ℕ → List ℕ → Type 0
FitsBytes verb bytes = Lacks line_feed bytes × (length verb + length (doubled bytes) + 2 < LINE_LIMIT)

-- the same where so many bytes without an LF stand before them
abbrev pub FitsBehind : List ℕ → ℕ → List ℕ → Type 0
FitsBehind verb front bytes =
    Lacks line_feed bytes × (length verb + front + length (doubled bytes) + 2 < LINE_LIMIT)

-- a text without an LF that is far from too long
abbrev pub FitsALine : List ℕ → Type 0
FitsALine text = Lacks line_feed text × (length (doubled text) ≤ 30000)

-- the value is in the grammar of its form
abbrev pub FitsForm : Parameter → Type 0
FitsForm Nothing = Unit {0}
FitsForm (Text words) = 0 < length words
FitsForm (Letter letter) = IsCapital letter
FitsForm (Number number) = Unit {0}
FitsForm (LeadingNumber number) = Unit {0}
FitsForm (Options options) = FitsRetr options
FitsForm (Address at) = Unit {0}
FitsForm (Targets targets) = FitsTargets targets
FitsForm (Ranges ranges) = length ranges ≤ MAX_ITEMS
FitsForm (Part eret) = FitsEret eret
FitsForm (Place esto) = FitsEsto esto

-- a value with bytes of its own stands in one line behind this verb; each other value does
abbrev pub FitsLine : List ℕ → Parameter → Type 0
FitsLine verb (Text words) = FitsBytes verb words
FitsLine verb (Part eret) = FitsBytes verb (eret_text eret)
FitsLine verb (Place esto) = FitsBytes verb (esto_text esto)
FitsLine verb _ = Unit {0}

-- the value has a line behind this verb
abbrev pub FitsParameter : List ℕ → Parameter → Type 0
FitsParameter verb value = FitsForm value × FitsLine verb value
