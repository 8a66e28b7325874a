-- What reading a list does to the set that it is read into.
use Rattle.std.specs.Prelude.{ℕ, ◌⊎◌, ◌↔◌, List}
use Rattle.std.specs.List.{AllZip}
use Rattle.gft_range.specs.declared.range.Range.{Range}
use Rattle.gft_range.specs.Range.{HasOffset}
use Rattle.gft_range.specs.Normal.{IsNormal}
use Rattle.gft_range.specs.ListText.{IsItem, items_of}

-- the normal list of the offsets that are in the old set or in an item of the text
pub record AddsItems (old : List Range) (text : List ℕ) (new : List Range) : Type 0 where
  pub items : List Range
  pub read : AllZip IsItem (items_of text) items
  pub normal : IsNormal new
  pub offsets : (x : ℕ) → HasOffset new x ↔ (HasOffset old x ⊎ HasOffset items x)
