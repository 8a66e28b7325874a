use Rattle.std.proofs.Common.{◌≡◌, ◌∷◌, ◌++◌, take}
use Rattle.std.specs.List.{flat_map}
use Rattle.std.specs.String.{string_bytes}
use Rattle.gft_base.specs.Words.{comma}
use Rattle.gft_range.specs.ListText.{FitRanges, item_text}
use Rattle.gft_range.proofs.list.write_ranges.Given as goal

abbrev pub invariant-loop-range : goal.invariant-loop-range
invariant-loop-range l = record {
  text : string_bytes l.text ≡ string_bytes l.initial.text ++ flat_map (λ q. comma ∷ item_text q) (take l.range-index l.others);
  fit : FitRanges (take l.range-index l.others);
}
