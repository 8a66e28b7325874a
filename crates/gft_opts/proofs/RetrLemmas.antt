-- Options of RETR in text.
use Rattle.std.proofs.Common.{◌≡◌, ℕ, ◌+◌, ◌<◌, ◌≤◌, eqb, List, [], ◌∷◌, ◌++◌, length, length-append, length-drop, take, drop, Option, Some, None, codes, inl, inr, refl, sym, ap, ◌∙◌, append_assoc, arith}
use Rattle.std.specs.Fmt.{decimal}
use Rattle.std.proofs.Math.ListN.{drop_of_length-le}
use Rattle.std.proofs.Math.Seq.{take-length}
use Rattle.std.specs.List.{AllZip, AllByRecursion, position, flat_map, before_first, after_first}
use Rattle.std.specs.Option.{option_to_list}
use Rattle.std.proofs.lemmas.Grind.{flat_map-append}
use Rattle.std.proofs.lemmas.List.{append-nil}
use Rattle.gft_base.specs.Words.{parts_at}
use Rattle.gft_base.proofs.Lemmas.{parts_found, parts_alone, parts_some, parts_join, place_found, place_none, AllZip-one, AllZip-middle, AllZip-push}
use Rattle.gft_layout.specs.declared.Layout.{Layout}
use Rattle.gft_layout.specs.declared.Layout.TheVariants as layouts
use Rattle.gft_opts.specs.Setting.{IsSetting, setting_text}
use Rattle.gft_opts.specs.Retr.{FitsLayout, FitsParallel, FitsRetr, IsRetr, MakesLayout, SaysOptions, block_in, blocks_of, ended, option_items, layout_in, layout_settings, names_of, parallel_settings, retr_text, settings_text, start_in}
use Rattle.gft_opts.specs.Settings.{Adds, IsTwice}
use Rattle.gft_opts.specs.declared.retr.RetrOptions.{RetrOptions}
use Rattle.gft_opts.specs.declared.settings.Settings.{Settings}
use Rattle.gft_opts.specs.declared.setting.LayoutName.{LayoutName}
use Rattle.gft_opts.specs.declared.setting.Setting.{Setting}
use Rattle.gft_opts.specs.declared.setting.Setting.TheVariants.{StripeLayout, BlockSize, Parallelism}
use Rattle.gft_opts.proofs.ListLemmas.{AllZip-split}
use Rattle.gft_opts.proofs.SettingLemmas.{FitsSetting, IsSetting-one, setting_fits, setting_lacks, setting_written}

-- ---- the items of a text

ended-more : (part : List ℕ) (parts : List (List ℕ)) → 0 < length parts → ended (part ∷ parts) ≡ part ∷ ended parts
ended-more part [] some = absurd (omega (arith, some))
ended-more [] (next ∷ parts) some = refl
ended-more (b ∷ part) (next ∷ parts) some = refl

ended-alone : (part : List ℕ) → 0 < length part → ended (part ∷ []) ≡ part ∷ []
ended-alone [] some = absurd (omega (arith, some))
ended-alone (b ∷ part) some = refl

-- an item ends at the first `;`, or at the end
pub items-more : (text : List ℕ) → 0 < length text → option_items text ≡ before_first (λ b. eqb b 59) text ∷ option_items (after_first (λ b. eqb b 59) text)
items-more text some = go (position (λ b. eqb b 59) text) refl where
  go : (found : Option ℕ) → position (λ b. eqb b 59) text ≡ found → option_items text ≡ before_first (λ b. eqb b 59) text ∷ option_items (after_first (λ b. eqb b 59) text)
  go None none =
      let place = place_none (λ b. eqb b 59) text none in
      rw (parts_alone 59 text none, place, take-length, drop_of_length-le text {i = length text + 1} (omega arith)) (ended-alone text some)
  go (Some at) found =
      let place = place_found (λ b. eqb b 59) text at found in
      rw (parts_found 59 text at found, place) (ended-more (take at text) (parts_at 59 (drop (at + 1) text)) (parts_some 59 (drop (at + 1) text)))

pub items-shorter : (text : List ℕ) → 0 < length text → length (after_first (λ b. eqb b 59) text) < length text
items-shorter text some = simp length-drop (omega (arith, some))

-- ---- what was read so far

pub record Reading (text rest : List ℕ) (said : Settings) : Type 0 where
  pub done : List (List ℕ)
  pub settings : List Setting
  pub items : option_items text ≡ done ++ option_items rest
  pub read : AllZip IsSetting done settings
  pub layouts : flat_map layout_in settings ≡ option_to_list said.layout
  pub blocks : flat_map block_in settings ≡ option_to_list said.block
  pub starts : flat_map start_in settings ≡ option_to_list said.parallel

pub nothing_read : (text : List ℕ) (said : Settings) → said.layout ≡ None → said.block ≡ None → said.parallel ≡ None → Reading text text said
nothing_read text said layout block parallel = record {
  done = [];
  settings = [];
  items = refl;
  read = tt;
  layouts = rw layout refl;
  blocks = rw block refl;
  starts = rw parallel refl;
}

in_one_more : {A : Type 0} (f : Setting → List A) (settings : List Setting) (setting : Setting) → flat_map f (settings ++ setting ∷ []) ≡ flat_map f settings ++ f setting
in_one_more f settings setting = rw (flat_map-append f settings (setting ∷ []), append-nil) refl

pub read_more : (text rest : List ℕ) (old new : Settings) (setting : Setting) → Reading text rest old → 0 < length rest → IsSetting (before_first (λ b. eqb b 59) rest) setting → Adds old setting new → Reading text (after_first (λ b. eqb b 59) rest) new
read_more text rest old new setting kept some is adds = record {
  done = kept.done ++ before_first (λ b. eqb b 59) rest ∷ [];
  settings = kept.settings ++ setting ∷ [];
  items = rw append_assoc (kept.items ∙ ap (λ (x : List (List ℕ)). kept.done ++ x) (items-more rest some));
  read = AllZip-push IsSetting kept.done kept.settings _ setting kept.read is;
  layouts = in_one_more layout_in kept.settings setting ∙ ap (λ (x : List LayoutName). x ++ layout_in setting) kept.layouts ∙ sym adds.layout;
  blocks = in_one_more block_in kept.settings setting ∙ ap (λ (x : List ℕ). x ++ block_in setting) kept.blocks ∙ sym adds.block;
  starts = in_one_more start_in kept.settings setting ∙ ap (λ (x : List ℕ). x ++ start_in setting) kept.starts ∙ sym adds.start;
}

pub all_read : (text rest : List ℕ) (said : Settings) → Reading text rest said → length rest ≡ 0 → SaysOptions text (option_to_list said.layout) (option_to_list said.block) (option_to_list said.parallel)
all_read text (b ∷ rest) said kept none = absurd (omega (arith, none))
all_read text [] said kept none = record {
  settings = kept.settings;
  read = rw (kept.items, append-nil) kept.read;
  layouts_are = kept.layouts;
  blocks_are = kept.blocks;
  starts_are = kept.starts;
}

-- ---- what is refused says no options

pub bad_item : (text rest : List ℕ) (said : Settings) → Reading text rest said → 0 < length rest → ((setting : Setting) → IsSetting (before_first (λ b. eqb b 59) rest) setting → ⊥) → (options : RetrOptions) → IsRetr text options → ⊥
bad_item text rest said kept some bad options is =
    let items = kept.items ∙ ap (λ (x : List (List ℕ)). kept.done ++ x) (items-more rest some) in
    let found = AllZip-middle IsSetting kept.done (before_first (λ b. eqb b 59) rest) (option_items (after_first (λ b. eqb b 59) rest)) is.settings (rw items at is.read) in
    bad found.0 found.1

few_layouts : (layout : Option Layout) → length (names_of layout) ≤ 1
few_layouts None = omega arith
few_layouts (Some layouts.Partitioned) = omega arith
few_layouts (Some (layouts.Blocked block)) = omega arith

few_blocks : (layout : Option Layout) → length (blocks_of layout) ≤ 1
few_blocks None = omega arith
few_blocks (Some layouts.Partitioned) = omega arith
few_blocks (Some (layouts.Blocked block)) = omega arith

few_starts : (parallel : Option ℕ) → length (option_to_list parallel) ≤ 1
few_starts None = omega arith
few_starts (Some start) = omega arith

-- a key that stands twice has more values than options have
too_many : {A : Type 0} (f : Setting → List A) (settings more : List Setting) (setting : Setting) (before : Option A) (whole : List A) → flat_map f settings ≡ option_to_list before → flat_map f (settings ++ setting ∷ more) ≡ whole → length whole ≤ 1 → 1 < length (option_to_list before ++ f setting) → ⊥
too_many f settings more setting before whole has all few twice =
    let spelt = sym all ∙ flat_map-append f settings (setting ∷ more) ∙ ap (λ x. x ++ (f setting ++ flat_map f more)) has in
    omega (arith, few, twice, ap length spelt, length-append (option_to_list before) (f setting ++ flat_map f more), length-append (f setting) (flat_map f more), length-append (option_to_list before) (f setting))

pub key_twice : (text rest : List ℕ) (said : Settings) (setting : Setting) → Reading text rest said → 0 < length rest → IsSetting (before_first (λ b. eqb b 59) rest) setting → IsTwice said setting → (options : RetrOptions) → IsRetr text options → ⊥
key_twice text rest said setting kept some is_setting twice options is =
    let items = kept.items ∙ ap (λ (x : List (List ℕ)). kept.done ++ x) (items-more rest some) in
    let split = AllZip-split IsSetting kept.done (before_first (λ b. eqb b 59) rest ∷ option_items (after_first (λ b. eqb b 59) rest)) is.settings (rw items at is.read) in
    behind split.0 split.1 split.2 (AllZip-one IsSetting IsSetting-one kept.done split.0 kept.settings split.3 kept.read) split.4 where
      behind : (front back : List Setting) → is.settings ≡ front ++ back → front ≡ kept.settings → AllZip IsSetting (before_first (λ b. eqb b 59) rest ∷ option_items (after_first (λ b. eqb b 59) rest)) back → ⊥
      behind front [] whole same all = all
      behind front (next ∷ back) whole same all =
          let next_is = IsSetting-one _ next setting all.0 is_setting in
          let spelt : is.settings ≡ kept.settings ++ setting ∷ back = cc in
          elim twice [
            | inl layout ↦ too_many layout_in kept.settings back setting said.layout (names_of options.layout) kept.layouts (ap (λ (x : List Setting). flat_map layout_in x) (sym spelt) ∙ is.layouts_are) (few_layouts options.layout) layout
            | inr other ↦ elim other [
              | inl block ↦ too_many block_in kept.settings back setting said.block (blocks_of options.layout) kept.blocks (ap (λ (x : List Setting). flat_map block_in x) (sym spelt) ∙ is.blocks_are) (few_blocks options.layout) block
              | inr start ↦ too_many start_in kept.settings back setting said.parallel (option_to_list options.parallel) kept.starts (ap (λ (x : List Setting). flat_map start_in x) (sym spelt) ∙ is.starts_are) (few_starts options.parallel) start
            ]
          ]

-- ---- one value

-- a text says each key's values once
pub says_one : (text : List ℕ) (ls ms : List LayoutName) (bs cs ns os : List ℕ) → SaysOptions text ls bs ns → SaysOptions text ms cs os → (ls ≡ ms) × (bs ≡ cs) × (ns ≡ os)
says_one text ls ms bs cs ns os a b =
    let same = AllZip-one IsSetting IsSetting-one (option_items text) a.settings b.settings a.read b.read in (
      sym a.layouts_are ∙ ap (λ (x : List Setting). flat_map layout_in x) same ∙ b.layouts_are,
      sym a.blocks_are ∙ ap (λ (x : List Setting). flat_map block_in x) same ∙ b.blocks_are,
      sym a.starts_are ∙ ap (λ (x : List Setting). flat_map start_in x) same ∙ b.starts_are,
    )

-- what makes no layout is said by no options
pub no_layout : (text : List ℕ) (names : List LayoutName) (blocks starts : List ℕ) → SaysOptions text names blocks starts → ((layout : Option Layout) → MakesLayout names blocks layout → ⊥) → (options : RetrOptions) → IsRetr text options → ⊥
no_layout text names blocks starts said none options is =
    let same = says_one text _ _ _ _ _ _ said is in
    none options.layout (record { names_are = same.0; blocks_are = same.1 })

layout_one : (a b : Option Layout) → names_of a ≡ names_of b → blocks_of a ≡ blocks_of b → a ≡ b
layout_one None None named sized = refl
layout_one None (Some layouts.Partitioned) named sized = absurd (cc named)
layout_one None (Some (layouts.Blocked c)) named sized = absurd (cc named)
layout_one (Some layouts.Partitioned) None named sized = absurd (cc named)
layout_one (Some layouts.Partitioned) (Some layouts.Partitioned) named sized = refl
layout_one (Some layouts.Partitioned) (Some (layouts.Blocked c)) named sized = absurd (cc sized)
layout_one (Some (layouts.Blocked b)) None named sized = absurd (cc named)
layout_one (Some (layouts.Blocked b)) (Some layouts.Partitioned) named sized = absurd (cc sized)
layout_one (Some (layouts.Blocked b)) (Some (layouts.Blocked c)) named sized =
    let same : b ≡ c = cc in
    ap (λ (x : ℕ). Some (layouts.Blocked x)) same

start_one : (a b : Option ℕ) → option_to_list a ≡ option_to_list b → a ≡ b
start_one None None same = refl
start_one None (Some n) same = absurd (cc same)
start_one (Some m) None same = absurd (cc same)
start_one (Some m) (Some n) same = let equal : m ≡ n = cc in ap (λ (x : ℕ). Some x) equal

pub one : (text : List ℕ) (a b : RetrOptions) → IsRetr text a → IsRetr text b → a ≡ b
one text a b is_a is_b =
    let same = says_one text _ _ _ _ _ _ is_a is_b in
    let with_layout : Option Layout → RetrOptions = λ l. record { layout = l; parallel = a.parallel } in
    let with_parallel : Option ℕ → RetrOptions = λ p. record { layout = b.layout; parallel = p } in
    ap with_layout (layout_one a.layout b.layout same.0 same.1) ∙ ap with_parallel (start_one a.parallel b.parallel same.2)

-- ---- what is written is read again

settings_read : (settings : List Setting) → AllByRecursion FitsSetting settings → AllZip IsSetting (option_items (settings_text settings)) settings
settings_read [] fit = tt
settings_read (setting ∷ settings) fit =
    let text : settings_text (setting ∷ settings) ≡ setting_text setting ++ 59 ∷ settings_text settings = append_assoc (setting_text setting) (59 ∷ []) (settings_text settings) in
    let parts = parts_join 59 (setting_text setting) (settings_text settings) (setting_lacks setting fit.0) in
    let items = ap (λ (x : List ℕ). option_items x) text ∙ ap (λ (x : List (List ℕ)). ended x) parts ∙ ended-more (setting_text setting) (parts_at 59 (settings_text settings)) (parts_some 59 (settings_text settings)) in
    rw items (setting_written setting fit.0, settings_read settings fit.1)

layout_fit : (layout : Option Layout) (more : List Setting) → FitsLayout layout → AllByRecursion FitsSetting more → AllByRecursion FitsSetting (layout_settings layout ++ more)
layout_fit None more fits rest = rest
layout_fit (Some layouts.Partitioned) more fits rest = (tt, rest)
layout_fit (Some (layouts.Blocked block)) more fits rest = (tt, (fits, rest))

parallel_fit : (parallel : Option ℕ) → FitsParallel parallel → AllByRecursion FitsSetting (parallel_settings parallel)
parallel_fit None fits = tt
parallel_fit (Some start) fits = (fits, tt)

layouts_said : (layout : Option Layout) (parallel : Option ℕ) → flat_map layout_in (layout_settings layout ++ parallel_settings parallel) ≡ names_of layout
layouts_said None None = refl
layouts_said None (Some start) = refl
layouts_said (Some layouts.Partitioned) None = refl
layouts_said (Some layouts.Partitioned) (Some start) = refl
layouts_said (Some (layouts.Blocked block)) None = refl
layouts_said (Some (layouts.Blocked block)) (Some start) = refl

blocks_said : (layout : Option Layout) (parallel : Option ℕ) → flat_map block_in (layout_settings layout ++ parallel_settings parallel) ≡ blocks_of layout
blocks_said None None = refl
blocks_said None (Some start) = refl
blocks_said (Some layouts.Partitioned) None = refl
blocks_said (Some layouts.Partitioned) (Some start) = refl
blocks_said (Some (layouts.Blocked block)) None = refl
blocks_said (Some (layouts.Blocked block)) (Some start) = refl

starts_said : (layout : Option Layout) (parallel : Option ℕ) → flat_map start_in (layout_settings layout ++ parallel_settings parallel) ≡ option_to_list parallel
starts_said None None = refl
starts_said None (Some start) = refl
starts_said (Some layouts.Partitioned) None = refl
starts_said (Some layouts.Partitioned) (Some start) = refl
starts_said (Some (layouts.Blocked block)) None = refl
starts_said (Some (layouts.Blocked block)) (Some start) = refl

pub written : (options : RetrOptions) → FitsRetr options → IsRetr (retr_text options) options
written options fits =
    let settings : List Setting = layout_settings options.layout ++ parallel_settings options.parallel in
    let text = sym (flat_map-append (λ s. setting_text s ++ 59 ∷ []) (layout_settings options.layout) (parallel_settings options.parallel)) in
    record {
      settings = settings;
      read = rw text (settings_read settings (layout_fit options.layout (parallel_settings options.parallel) fits.layout (parallel_fit options.parallel fits.parallel)));
      layouts_are = layouts_said options.layout options.parallel;
      blocks_are = blocks_said options.layout options.parallel;
      starts_are = starts_said options.layout options.parallel;
    }

-- ---- only such are read

all_fit : (items : List (List ℕ)) (settings : List Setting) → AllZip IsSetting items settings → AllByRecursion FitsSetting settings
all_fit [] [] all = tt
all_fit [] (s ∷ settings) all = absurd all
all_fit (item ∷ items) [] all = absurd all
all_fit (item ∷ items) (s ∷ settings) all = (setting_fits item s all.0, all_fit items settings all.1)

block_fits : (settings : List Setting) (block : ℕ) → AllByRecursion FitsSetting settings → flat_map block_in settings ≡ block ∷ [] → FitsSetting (BlockSize block)
block_fits [] block fit same = absurd (cc same)
block_fits (StripeLayout name ∷ settings) block fit same = block_fits settings block fit.1 same
block_fits (BlockSize b ∷ settings) block fit same = let equal : b ≡ block = cc in rw (← equal) fit.0
block_fits (Parallelism start ∷ settings) block fit same = block_fits settings block fit.1 same

start_fits : (settings : List Setting) (start : ℕ) → AllByRecursion FitsSetting settings → flat_map start_in settings ≡ start ∷ [] → FitsSetting (Parallelism start)
start_fits [] start fit same = absurd (cc same)
start_fits (StripeLayout name ∷ settings) start fit same = start_fits settings start fit.1 same
start_fits (BlockSize b ∷ settings) start fit same = start_fits settings start fit.1 same
start_fits (Parallelism s ∷ settings) start fit same = let equal : s ≡ start = cc in rw (← equal) fit.0

layout_is_fit : (layout : Option Layout) (settings : List Setting) → AllByRecursion FitsSetting settings → flat_map block_in settings ≡ blocks_of layout → FitsLayout layout
layout_is_fit None settings fit same = tt
layout_is_fit (Some layouts.Partitioned) settings fit same = tt
layout_is_fit (Some (layouts.Blocked block)) settings fit same = block_fits settings block fit same

parallel_is_fit : (parallel : Option ℕ) (settings : List Setting) → AllByRecursion FitsSetting settings → flat_map start_in settings ≡ option_to_list parallel → FitsParallel parallel
parallel_is_fit None settings fit same = tt
parallel_is_fit (Some start) settings fit same = start_fits settings start fit same

pub fits : (text : List ℕ) (options : RetrOptions) → IsRetr text options → FitsRetr options
fits text options is =
    let all = all_fit (option_items text) is.settings is.read in
    record { layout = layout_is_fit options.layout is.settings all is.blocks_are; parallel = parallel_is_fit options.parallel is.settings all is.starts_are }

-- ---- what the writer writes

pub blocked_text : (layout : Layout) (block : ℕ) → layout ≡ layouts.Blocked block → settings_text (layout_settings (Some layout)) ≡ codes "StripeLayout=Blocked;BlockSize=" ++ (decimal block ++ 59 ∷ [])
blocked_text layout block is = rw (is, append-nil) refl

pub parallel_text : (parallel : Option ℕ) (start : ℕ) → parallel ≡ Some start → settings_text (parallel_settings parallel) ≡ codes "Parallelism=" ++ (decimal start ++ 44 ∷ (decimal start ++ 44 ∷ (decimal start ++ 59 ∷ [])))
parallel_text parallel start is = rw is (simp (append_assoc, append-nil))
