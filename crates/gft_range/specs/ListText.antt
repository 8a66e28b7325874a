-- Lists of ranges in text, as the parameter of REST in extended block mode (GFD.20).
use Rattle.std.specs.Prelude.{◌≡◌, ℕ, ◌+◌, ◌<◌, ◌^◌, ◌≤◌, ◌⊎◌, ◌↔◌, ◌++◌, List, [], ◌∷◌, length, decimal}
use Rattle.std.specs.List.{AllZip, AllByRecursion, sum_by, flat_map}
use Rattle.gft_base.specs.Words.{IsNumber, comma, dash, digit_zero, parts_at}
use Rattle.gft_range.specs.declared.TheConstants.{MAX_ITEMS}
use Rattle.gft_range.specs.declared.range.Range.{Range}
use Rattle.gft_range.specs.Range.{HasOffset}
use Rattle.gft_range.specs.Normal.{IsNormal}
use Rattle.gft_range.specs.declared.list.ListError.{ListError}
use Rattle.gft_range.specs.declared.list.ListError.TheVariants.{BadList, TooMany, OutOfMemory}

-- ---- what is read

-- the text is these numbers, with `-` between them
abbrev pub AreDashed : List ℕ → List ℕ → Type 0
AreDashed text numbers = AllZip IsNumber (parts_at dash text) numbers

-- the text is `a-b` with a at most b, or `b` alone, which means `0-b`
abbrev pub IsItem : List ℕ → Range → Type 0
IsItem text r =
    (AreDashed text (r.start ∷ r.end ∷ []) × (r.start ≤ r.end))
    ⊎ (AreDashed text (r.end ∷ []) × (r.start ≡ 0))

-- the parts between the commas
abbrev pub items_of : List ℕ → List (List ℕ)
items_of text = parts_at comma text

-- the text has at most MAX_ITEMS items, and the set is the normal list of their offsets
pub record IsList (text : List ℕ) (set : List Range) : Type 0 where
  pub items : List Range
  pub read : AllZip IsItem (items_of text) items
  pub few : length (items_of text) ≤ MAX_ITEMS
  pub normal : IsNormal set
  pub offsets : (x : ℕ) → HasOffset set x ↔ HasOffset items x

-- ---- what is refused

-- the first item that is ill-formed begins at this place
pub record FirstBadAt (text : List ℕ) (at : ℕ) : Type 0 where
  pub front : List (List ℕ)
  pub bad : List ℕ
  pub behind : List (List ℕ)
  pub parts : items_of text ≡ front ++ bad ∷ behind
  pub read : (items : List Range) × AllZip IsItem front items
  pub ill : (r : Range) → ¬ IsItem bad r
  pub place : at ≡ sum_by (λ item. length item + 1) front

-- which refusal a text gets: too many items come before an ill-formed one, and before memory is asked for
abbrev pub RefusesList : List ℕ → ListError → Type 0
RefusesList text (TooMany items) = (items ≡ length (items_of text)) × (MAX_ITEMS < items)
RefusesList text (BadList at) = (length (items_of text) ≤ MAX_ITEMS) × FirstBadAt text at
RefusesList text OutOfMemory = length (items_of text) ≤ MAX_ITEMS

-- a text that is refused is no list
abbrev pub HasNoList : List ℕ → ListError → Type 0
HasNoList text (TooMany items) = (set : List Range) → ¬ IsList text set
HasNoList text (BadList at) = (set : List Range) → ¬ IsList text set
HasNoList text OutOfMemory = Unit {0}

-- ---- what is written

-- one range as it is written, `a-b`
abbrev pub item_text : Range → List ℕ
item_text r = decimal r.start ++ dash ∷ decimal r.end

-- the one text of a normal list: its ranges with commas between them, or `0-0` if there is none
abbrev pub list_text : List Range → List ℕ
list_text [] = digit_zero ∷ dash ∷ digit_zero ∷ []
list_text (r ∷ rs) = item_text r ++ flat_map (λ q. comma ∷ item_text q) rs

-- the ends are numbers of 64 bits
abbrev pub FitRanges : List Range → Type 0
FitRanges rs = AllByRecursion (λ r. (r.start < 2 ^ 64) × (r.end < 2 ^ 64)) rs
