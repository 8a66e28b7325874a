-- The layout blocks of one channel, as ranges of offsets, and what is left of one.
use Rattle.std.specs.Prelude.{ℕ, zero, suc, ◌+◌, ◌-◌, ◌*◌, min, not, nat_lt, if◌then◌else◌, List, [], ◌∷◌}
use Rattle.std.specs.Int.{div_ceil}
use Rattle.gft_range.specs.declared.range.Range.{Range}
use Rattle.gft_layout.specs.declared.Layout.{Layout}
use Rattle.gft_layout.specs.declared.Layout.TheVariants.{Partitioned, Blocked}
use Rattle.gft_layout.specs.declared.Shape.{Shape}
use Rattle.gft_layout.specs.declared.TheConstants.{PARTITION_BLOCK}
use Rattle.gft_layout.specs.Plan.{is_in, longest_runs}

-- at most n ranges of len places, which begin every step places from at on, below end, and are cut there
abbrev pub some_ranges : ℕ → ℕ → ℕ → ℕ → ℕ → List Range
some_ranges at len step end zero = []
some_ranges at len step end (suc n) =
    if nat_lt at end
    then record { start = at; end = min (at + len) end } ∷ some_ranges (at + step) len step end n
    else []

-- all of them
abbrev pub ranges_every : ℕ → ℕ → ℕ → ℕ → List Range
ranges_every at len step end = some_ranges at len step end (end - at)

-- the layout blocks of a channel, in ascending order
abbrev pub channel_blocks : Range → Layout → Shape → ℕ → ℕ → List Range
channel_blocks region Partitioned shape stripe channel =
    let width = div_ceil (region.end - region.start) shape.stripes in
    let start = region.start + stripe * width in
    ranges_every (start + channel * PARTITION_BLOCK) PARTITION_BLOCK (shape.parallel * PARTITION_BLOCK)
    (min (start + width) region.end)
channel_blocks region (Blocked block) shape stripe channel =
    ranges_every (region.start + (channel * shape.stripes + stripe) * block) block
    (shape.stripes * shape.parallel * block) region.end

-- the parts of a range that aren't done
abbrev pub left_in : List Range → Range → List Range
left_in done r = longest_runs (λ x. not (is_in done x)) (λ _. 0) r.start (r.end - r.start)
