-- Names of files.
use Rattle.std.specs.Prelude.{◌≡◌, ◌≢◌, ℕ, ◌-◌, ◌<◌, ◌≤◌, Bool, false, not, ◌||◌, ◌==◌, nat_lt, nat_eq}
use Rattle.std.specs.Prelude.{List, [], ◌∷◌, length, slice_index, codes, Option, Some, None, if◌then◌else◌}
use Rattle.std.specs.Char.{is_ascii_alphanumeric}
use Rattle.std.specs.List.{AllPass, position, ends_with}
use Rattle.std.specs.Option.{option_or}
use Rattle.gft_base.specs.Words.{dash, dot, slash, underscore}
use Rattle.gft_text.specs.declared.TheConstants.{MAX_NAME_LEN}
use Rattle.gft_text.specs.declared.name.NameError.{NameError}
use Rattle.gft_text.specs.declared.name.NameError.TheVariants.{BadName, OutOfMemory}

-- a letter, a digit, `.`, `_` or `-`
abbrev pub is_name_byte : ℕ → Bool
is_name_byte b = is_ascii_alphanumeric b || b == dot || b == underscore || b == dash

-- the ending of the server's own files
abbrev pub own_ending : List ℕ
own_ending = codes ".gfr"

-- 1 to MAX_NAME_LEN bytes of a name, that don't begin with a dot and don't end in the server's own ending
pub record IsName (name : List ℕ) : Type 0 where
  pub bytes : AllPass is_name_byte name
  pub some : 0 < length name
  pub visible : slice_index name 0 ≢ dot
  pub short : length name ≤ MAX_NAME_LEN
  pub foreign : ends_with nat_eq name own_ending ≡ false

-- one leading slash is dropped
abbrev pub without_slash : List ℕ → List ℕ
without_slash [] = []
without_slash (b ∷ bs) = if b == slash then bs else b ∷ bs

-- the text writes the name, with or without one leading slash
pub record WritesName (text name : List ℕ) : Type 0 where
  pub written : name ≡ without_slash text
  pub legal : IsName name

-- the place of the first byte that no name has
abbrev pub bad_byte : List ℕ → Option ℕ
bad_byte name = position (λ b. not (is_name_byte b)) name

-- where a name is refused: the first rule that it breaks, in this order
abbrev pub fault_of : List ℕ → Option ℕ
fault_of name = option_or (bad_byte name) (
    if length name == 0 then Some 0
    else if slice_index name 0 == dot then Some 0
    else if nat_lt MAX_NAME_LEN (length name) then Some MAX_NAME_LEN
    else if ends_with nat_eq name own_ending then Some (length name - length own_ending)
    else None)

-- a refusal is that of the first fault; memory is asked for a name alone
abbrev pub RefusesName : List ℕ → NameError → Type 0
RefusesName name (BadName at) = (fault_of name ≡ Some at) × ¬ IsName name
RefusesName name OutOfMemory = IsName name
