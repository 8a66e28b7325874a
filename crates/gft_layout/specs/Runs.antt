-- What plans are, in the words of their regions.
use Rattle.std.specs.Prelude.{◌≡◌, ◌≢◌, ℕ, ◌+◌, ◌<◌, ◌≤◌, ◌↔◌, List, [], ◌∷◌}
use Rattle.gft_range.specs.declared.range.Range.{Range}
use Rattle.gft_range.specs.Words.{HasOffset, InRange}
use Rattle.gft_layout.specs.declared.Layout.{Layout}
use Rattle.gft_layout.specs.declared.Shape.{Shape}
use Rattle.gft_layout.specs.Owner.{block_at, Owner, owner_of}

-- an offset of the region that isn't done
abbrev pub IsLeft : Range → List Range → ℕ → Type 0
IsLeft region done x = InRange region x × ¬ HasOffset done x

-- the first range begins at this offset or above it
abbrev pub BeginsFrom : ℕ → List Range → Type 0
BeginsFrom x [] = Unit {0}
BeginsFrom x (r ∷ rs) = x ≤ r.start

-- each range has an offset, and lies below the next: so no offset stands in two
abbrev pub IsAscending : List Range → Type 0
IsAscending [] = Unit {0}
IsAscending (r ∷ rs) = (r.start < r.end) × BeginsFrom r.end rs × IsAscending rs

-- the plan names, once each, the offsets that are left and are this owner's, and no others
pub record NamesItsOffsets (region : Range) (done : List Range) (layout : Layout) (shape : Shape)
    (owner : Owner) (plan : List Range) : Type 0 where
  pub ascending : IsAscending plan
  pub offsets : (x : ℕ) → HasOffset plan x ↔ (IsLeft region done x × (owner_of region layout shape x ≡ owner))

-- a longest run of consecutive offsets that are left, inside one layout block
pub record IsLongestRun (region : Range) (done : List Range) (layout : Layout) (shape : Shape)
    (r : Range) : Type 0 where
  pub non_empty : r.start < r.end
  pub inside : (x : ℕ) → InRange r x →
      IsLeft region done x × (block_at region layout shape x ≡ block_at region layout shape r.start)
  pub before : (x : ℕ) → x + 1 ≡ r.start → IsLeft region done x →
      block_at region layout shape x ≢ block_at region layout shape r.start
  pub behind : IsLeft region done r.end →
      block_at region layout shape r.end ≢ block_at region layout shape r.start
