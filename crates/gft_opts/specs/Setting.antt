-- One option of RETR, `key=value` (GFD.20, OPTS RETR).
use Rattle.std.specs.Prelude.{ℕ, ◌≤◌, ◌==◌, ◌++◌, List, [], ◌∷◌, codes, decimal}
use Rattle.std.specs.List.{AllZip, before_first, after_first}
use Rattle.gft_base.specs.Words.{IsNumber, comma, equals_sign, parts_at}
use Rattle.gft_base.specs.declared.TheConstants.{LIMIT}
use Rattle.gft_opts.specs.Word.{IsWord}
use Rattle.gft_opts.specs.declared.TheConstants.{MAX_PARALLEL}
use Rattle.gft_opts.specs.declared.setting.Key.{Key}
use Rattle.gft_opts.specs.declared.setting.Key.TheVariants as keys
use Rattle.gft_opts.specs.declared.setting.LayoutName.{LayoutName}
use Rattle.gft_opts.specs.declared.setting.LayoutName.TheVariants.{Partitioned, Blocked}
use Rattle.gft_opts.specs.declared.setting.Setting.{Setting}
use Rattle.gft_opts.specs.declared.setting.Setting.TheVariants.{StripeLayout, BlockSize, Parallelism}

-- the bytes before the first `=`, and those behind it
abbrev pub key_in : List ℕ → List ℕ
key_in item = before_first (λ b. b == equals_sign) item

abbrev pub value_in : List ℕ → List ℕ
value_in item = after_first (λ b. b == equals_sign) item

abbrev pub key_text : Key → List ℕ
key_text keys.StripeLayout = codes "StripeLayout"
key_text keys.BlockSize = codes "BlockSize"
key_text keys.Parallelism = codes "Parallelism"

abbrev pub IsKey : List ℕ → Key → Type 0
IsKey text key = IsWord (key_text key) text

abbrev pub name_text : LayoutName → List ℕ
name_text Partitioned = codes "Partitioned"
name_text Blocked = codes "Blocked"

abbrev pub IsLayoutName : List ℕ → LayoutName → Type 0
IsLayoutName text name = IsWord (name_text name) text

-- a number of bytes, from 1 to the limit of offsets
pub record IsBlockSize (text : List ℕ) (block : ℕ) : Type 0 where
  pub number : IsNumber text block
  pub some : 1 ≤ block
  pub limited : block ≤ LIMIT

-- `start,min,max`, from 1 to 64, with the start between the other two
pub record IsParallelism (text : List ℕ) (start : ℕ) : Type 0 where
  pub least : ℕ
  pub most : ℕ
  pub numbers : AllZip IsNumber (parts_at comma text) (start ∷ least ∷ most ∷ [])
  pub some : 1 ≤ least
  pub above : least ≤ start
  pub below : start ≤ most
  pub limited : most ≤ MAX_PARALLEL

-- the key of a setting
abbrev pub key_of : Setting → Key
key_of (StripeLayout name) = keys.StripeLayout
key_of (BlockSize block) = keys.BlockSize
key_of (Parallelism start) = keys.Parallelism

-- the text is the value of a setting
abbrev pub IsValue : List ℕ → Setting → Type 0
IsValue text (StripeLayout name) = IsLayoutName text name
IsValue text (BlockSize block) = IsBlockSize text block
IsValue text (Parallelism start) = IsParallelism text start

-- the item says this setting, `key=value`
pub record IsSetting (item : List ℕ) (setting : Setting) : Type 0 where
  pub key : IsKey (key_in item) (key_of setting)
  pub value : IsValue (value_in item) setting

-- the value as it is written: the start stands for all three numbers
abbrev pub value_text : Setting → List ℕ
value_text (StripeLayout name) = name_text name
value_text (BlockSize block) = decimal block
value_text (Parallelism start) = decimal start ++ comma ∷ (decimal start ++ comma ∷ decimal start)

abbrev pub setting_text : Setting → List ℕ
setting_text setting = key_text (key_of setting) ++ equals_sign ∷ value_text setting
