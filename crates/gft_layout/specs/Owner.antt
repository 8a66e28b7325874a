-- Which stripe, and which data connection of it, sends a place of a region (GFD.20, StripeLayout).
use Rattle.std.specs.Prelude.{ℕ, ◌-◌, ◌/◌, ◌%◌, ◌<◌, ◌≤◌}
use Rattle.std.specs.Int.{div_ceil}
use Rattle.gft_range.specs.declared.range.Range.{Range}
use Rattle.gft_layout.specs.declared.Layout.{Layout}
use Rattle.gft_layout.specs.declared.Layout.TheVariants.{Partitioned, Blocked}
use Rattle.gft_layout.specs.declared.Shape.{Shape}
use Rattle.gft_layout.specs.declared.TheConstants.{PARTITION_BLOCK}

-- a layout block is all places of one stripe with one running number
pub record LayoutBlock : Type 0 where
  pub stripe : ℕ
  pub number : ℕ

-- the layout block of the place i of a region of len places, counted from its start
abbrev pub layout_block : Layout → ℕ → ℕ → ℕ → LayoutBlock
layout_block Partitioned stripes len i =
    let width = div_ceil len stripes in
    record { stripe = i / width; number = (i % width) / PARTITION_BLOCK }
layout_block (Blocked block) stripes len i =
    record { stripe = (i / block) % stripes; number = (i / block) / stripes }

-- the layout block of an offset of the region
abbrev pub block_at : Range → Layout → Shape → ℕ → LayoutBlock
block_at region layout shape x = layout_block layout shape.stripes (region.end - region.start) (x - region.start)

-- a stripe, and a data connection of it
pub record Owner : Type 0 where
  pub stripe : ℕ
  pub channel : ℕ

-- the data connections of a stripe take its layout blocks in turn
abbrev pub owner_of : Range → Layout → Shape → ℕ → Owner
owner_of region layout shape x =
    let block = block_at region layout shape x in
    record { stripe = block.stripe; channel = block.number % shape.parallel }

-- ---- what a plan can be made of

-- the owner is one of those that the shape has
pub record IsOwner (shape : Shape) (owner : Owner) : Type 0 where
  pub stripe : owner.stripe < shape.stripes
  pub channel : owner.channel < shape.parallel

-- 1 to 16 stripes of 1 to 64 data connections
pub record IsShape (shape : Shape) : Type 0 where
  pub a_stripe : 1 ≤ shape.stripes
  pub stripes : shape.stripes ≤ 16
  pub a_channel : 1 ≤ shape.parallel
  pub parallel : shape.parallel ≤ 64

-- a block has a place
abbrev pub IsLayout : Layout → Type 0
IsLayout Partitioned = Unit {0}
IsLayout (Blocked block) = 1 ≤ block
