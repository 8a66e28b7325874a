-- Options of RETR in text (GFD.20, OPTS RETR): items `key=value`, each ended by `;`.
use Rattle.std.specs.Prelude.{◌≡◌, ℕ, ◌≤◌, List, [], ◌∷◌, ◌++◌, Option, Some, None}
use Rattle.std.specs.List.{AllZip, flat_map}
use Rattle.std.specs.Option.{option_to_list}
use Rattle.gft_base.specs.Words.{parts_at, semicolon}
use Rattle.gft_base.specs.declared.TheConstants.{LIMIT}
use Rattle.gft_layout.specs.declared.Layout.{Layout}
use Rattle.gft_layout.specs.declared.Layout.TheVariants as layouts
use Rattle.gft_opts.specs.Setting.{IsSetting, setting_text}
use Rattle.gft_opts.specs.declared.retr.RetrOptions.{RetrOptions}
use Rattle.gft_opts.specs.declared.TheConstants.{MAX_PARALLEL}
use Rattle.gft_opts.specs.declared.setting.LayoutName.{LayoutName}
use Rattle.gft_opts.specs.declared.setting.LayoutName.TheVariants as names
use Rattle.gft_opts.specs.declared.setting.Setting.{Setting}
use Rattle.gft_opts.specs.declared.setting.Setting.TheVariants.{StripeLayout, BlockSize, Parallelism}

-- parts without an empty one at the end
abbrev pub ended : List (List ℕ) → List (List ℕ)
ended [] = []
ended ([] ∷ []) = []
ended (part ∷ parts) = part ∷ ended parts

-- the items of a text, each ended by `;`, which may be missing at the end
abbrev pub option_items : List ℕ → List (List ℕ)
option_items text = ended (parts_at semicolon text)

-- what a setting says of each key
abbrev pub layout_in : Setting → List LayoutName
layout_in (StripeLayout name) = name ∷ []
layout_in (BlockSize block) = []
layout_in (Parallelism start) = []

abbrev pub block_in : Setting → List ℕ
block_in (StripeLayout name) = []
block_in (BlockSize block) = block ∷ []
block_in (Parallelism start) = []

abbrev pub start_in : Setting → List ℕ
start_in (StripeLayout name) = []
start_in (BlockSize block) = []
start_in (Parallelism start) = start ∷ []

-- the items of the text say these values of each key, and no others
pub record SaysOptions (text : List ℕ) (layouts : List LayoutName) (blocks starts : List ℕ) : Type 0 where
  pub settings : List Setting
  pub read : AllZip IsSetting (option_items text) settings
  pub layouts_are : flat_map layout_in settings ≡ layouts
  pub blocks_are : flat_map block_in settings ≡ blocks
  pub starts_are : flat_map start_in settings ≡ starts

-- how a layout is named: `Blocked` with its block size, `Partitioned` without one
abbrev pub names_of : Option Layout → List LayoutName
names_of None = []
names_of (Some layouts.Partitioned) = names.Partitioned ∷ []
names_of (Some (layouts.Blocked block)) = names.Blocked ∷ []

abbrev pub blocks_of : Option Layout → List ℕ
blocks_of None = []
blocks_of (Some layouts.Partitioned) = []
blocks_of (Some (layouts.Blocked block)) = block ∷ []

-- the text says these options, each key at most once
abbrev pub IsRetr : List ℕ → RetrOptions → Type 0
IsRetr text options =
    SaysOptions text (names_of options.layout) (blocks_of options.layout) (option_to_list options.parallel)

-- these names and block sizes are those of the layout
pub record MakesLayout (names : List LayoutName) (blocks : List ℕ) (layout : Option Layout) : Type 0 where
  pub names_are : names ≡ names_of layout
  pub blocks_are : blocks ≡ blocks_of layout

-- the settings in the order in which they are written
abbrev pub layout_settings : Option Layout → List Setting
layout_settings None = []
layout_settings (Some layouts.Partitioned) = StripeLayout names.Partitioned ∷ []
layout_settings (Some (layouts.Blocked block)) = StripeLayout names.Blocked ∷ BlockSize block ∷ []

abbrev pub parallel_settings : Option ℕ → List Setting
parallel_settings None = []
parallel_settings (Some start) = Parallelism start ∷ []

-- each setting ended by `;`
abbrev pub settings_text : List Setting → List ℕ
settings_text settings = flat_map (λ s. setting_text s ++ semicolon ∷ []) settings

-- the one text that is written
abbrev pub retr_text : RetrOptions → List ℕ
retr_text options =
    settings_text (layout_settings options.layout) ++ settings_text (parallel_settings options.parallel)

abbrev pub FitsLayout : Option Layout → Type 0
FitsLayout None = Unit {0}
FitsLayout (Some layouts.Partitioned) = Unit {0}
FitsLayout (Some (layouts.Blocked block)) = (1 ≤ block) × (block ≤ LIMIT)

abbrev pub FitsParallel : Option ℕ → Type 0
FitsParallel None = Unit {0}
FitsParallel (Some start) = (1 ≤ start) × (start ≤ MAX_PARALLEL)

-- the options have a text
pub record FitsRetr (options : RetrOptions) : Type 0 where
  pub layout : FitsLayout options.layout
  pub parallel : FitsParallel options.parallel
