-- How the channels of a mover stand to what it took from its lane.
use Rattle.std.specs.Prelude.{◌≡◌, ℕ, ◌+◌, ◌<◌, ◌≤◌, ◌↔◌, false, List, [], ◌∷◌, ◌++◌, length, slice_get}
use Rattle.std.specs.Prelude.{Some, remove}
use Rattle.gft_outside.specs.declared.TheConstants.{MAX_LIVE, MAX_OPENED}
use Rattle.gft_base.specs.declared.TheConstants.{LIMIT}
use Rattle.gft_eblock.specs.Words.{IsDone, Reader, arrivals, eods, to_come}
use Rattle.gft_outside.specs.Words.{HasNoBad, LaneInput, channels_after, is_live, no_channels, stream}
use Rattle.gft_receive.specs.declared.channels.LiveChannel.{LiveChannel}
use Rattle.gft_receive.specs.declared.channels.Channels.{Channels}

abbrev pub live_numbers : List LiveChannel → List ℕ
live_numbers [] = []
live_numbers (live ∷ table) = live.number ∷ live_numbers table

-- each number stands once, and is below one
abbrev pub AreApart : ℕ → List ℕ → Type 0
AreApart most [] = Unit {0}
AreApart most (n ∷ ns) = (n < most) × (is_live n ns ≡ false) × AreApart most ns

-- a reader stands behind its channel's stream, and told all that came
pub record ReadsStream (shift : ℕ) (stream : List ℕ) (reader : Reader) : Type 0 where
  pub carried : (later : List ℕ)
      → arrivals shift (stream ++ later) ≡ arrivals shift stream ++ to_come reader later
  pub taken : (IsDone reader → ⊥) → reader.taken ≡ length stream
  pub most : reader.taken ≤ length stream
  pub ended : IsDone reader ↔ (0 < eods (arrivals shift stream))
  pub sound : HasNoBad (arrivals shift stream)

abbrev pub EachReads : ℕ → List LaneInput → List LiveChannel → Type 0
EachReads shift inputs [] = Unit {0}
EachReads shift inputs (live ∷ table) =
    ReadsStream shift (stream live.number inputs) live.reader × EachReads shift inputs table

-- the table has the live channels, each behind its stream
pub record HoldsChannels (inputs : List LaneInput) (channels : Channels) : Type 0 where
  pub limit : channels.shift ≤ LIMIT
  pub live : live_numbers channels.table.items ≡ (channels_after inputs no_channels).live
  pub opened : channels.opened ≡ (channels_after inputs no_channels).opened
  pub apart : AreApart channels.opened (live_numbers channels.table.items)
  pub each : EachReads channels.shift inputs channels.table.items
  pub unopened : (channel : ℕ) → channels.opened ≤ channel → stream channel inputs ≡ []

-- the live channel at this place of the table
pub record IsAtPlace (table : List LiveChannel) (channel place : ℕ) : Type 0 where
  pub found : LiveChannel
  pub at : slice_get table place ≡ Some found
  pub number : found.number ≡ channel
  pub inside : place < length table

-- a channel is opened, before its first byte
pub record PutsIn (channel : ℕ) (old new : Channels) : Type 0 where
  pub reader : Reader
  pub few : length old.table.items < MAX_LIVE
  pub below : old.opened < MAX_OPENED
  pub table : new.table.items ≡ old.table.items ++ record { number = channel; reader = reader } ∷ []
  pub opened : new.opened ≡ old.opened + 1
  pub shift : new.shift ≡ old.shift
  pub untaken : reader.taken ≡ 0
  pub undone : ¬ IsDone reader
  pub to_come : (stream : List ℕ) → to_come reader stream ≡ arrivals old.shift stream

-- a live channel ends
pub record TakesOut (channel : ℕ) (reader : Reader) (old new : Channels) : Type 0 where
  pub place : ℕ
  pub at : slice_get old.table.items place ≡ Some (record { number = channel; reader = reader })
  pub inside : place < length old.table.items
  pub table : new.table.items ≡ remove old.table.items place
  pub opened : new.opened ≡ old.opened
  pub shift : new.shift ≡ old.shift
