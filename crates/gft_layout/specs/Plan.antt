-- What one data connection sends of a region, block by block.
use Rattle.std.specs.Prelude.{ℕ, zero, suc, ◌+◌, ◌-◌, Bool, not, ◌&&◌, nat_eq, nat_le, nat_lt}
use Rattle.std.specs.Prelude.{if◌then◌else◌, List, [], ◌∷◌}
use Rattle.std.specs.List.{list_any}
use Rattle.gft_range.specs.declared.range.Range.{Range}
use Rattle.gft_layout.specs.declared.Layout.{Layout}
use Rattle.gft_layout.specs.declared.Shape.{Shape}
use Rattle.gft_layout.specs.Owner.{block_at, owner_of}

-- a range of the list has the offset
abbrev pub is_in : List Range → ℕ → Bool
is_in rs x = list_any (λ (r : Range). nat_le r.start x && nat_lt x r.end) rs

-- ---- longest runs

-- x stands before the runs: it joins the first if that begins right behind it and has its number
abbrev pub join_first : (ℕ → ℕ) → ℕ → List Range → List Range
join_first number x [] = record { start = x; end = x + 1 } ∷ []
join_first number x (r ∷ rs) =
    if nat_eq r.start (x + 1) && nat_eq (number r.start) (number x)
    then record { start = x; end = r.end } ∷ rs
    else record { start = x; end = x + 1 } ∷ r ∷ rs

-- of the n places from x on, the longest runs of places that are sent and have one number
abbrev pub longest_runs : (ℕ → Bool) → (ℕ → ℕ) → ℕ → ℕ → List Range
longest_runs sent number x zero = []
longest_runs sent number x (suc n) =
    if sent x
    then join_first number x (longest_runs sent number (x + 1) n)
    else longest_runs sent number (x + 1) n

-- ---- the plan

-- the offset isn't done, and is this channel's
abbrev pub is_sent : Range → List Range → Layout → Shape → ℕ → ℕ → ℕ → Bool
is_sent region done layout shape stripe channel x =
    let owner = owner_of region layout shape x in
    not (is_in done x) && (nat_eq owner.stripe stripe && nat_eq owner.channel channel)

-- the offsets that a channel sends, each longest run in one layout block as a block of its own
unfoldable pub plan_of : Range → List Range → Layout → Shape → ℕ → ℕ → List Range
plan_of region done layout shape stripe channel =
    longest_runs (is_sent region done layout shape stripe channel)
    (λ x. (block_at region layout shape x).number) region.start (region.end - region.start)
