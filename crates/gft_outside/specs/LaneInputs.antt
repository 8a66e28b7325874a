-- What comes on a lane, byte by byte, and the channels that it leaves. Lists of inputs that were taken are
-- newest first.
use Rattle.std.specs.Prelude.{◌≡◌, ℕ, ◌+◌, ◌==◌, Bool, true, if◌then◌else◌, List, [], ◌∷◌, ◌++◌}
use Rattle.std.specs.List.{list_any}

pub data LaneInput : Type 0 where
  -- a data connection is opened
  Opened : (channel : ℕ) → LaneInput
  -- a byte comes on a channel
  Came : (channel value : ℕ) → LaneInput
  -- a channel ends
  Ended : (channel : ℕ) → LaneInput
  -- nothing came for a while
  Silence : LaneInput

pub record Channels : Type 0 where
  -- how many were opened
  pub opened : ℕ
  -- the numbers of those that haven't ended, in the order in which they were opened
  pub live : List ℕ

abbrev pub no_channels : Channels
no_channels = record { opened = 0; live = [] }

abbrev pub is_live : ℕ → List ℕ → Bool
is_live channel live = list_any (λ n. n == channel) live

abbrev pub without : ℕ → List ℕ → List ℕ
without channel [] = []
without channel (n ∷ ns) = if n == channel then without channel ns else n ∷ without channel ns

abbrev pub channels_by : LaneInput → Channels → Channels
channels_by (Opened channel) old = record { opened = old.opened + 1; live = old.live ++ channel ∷ [] }
channels_by (Came channel value) old = old
channels_by (Ended channel) old = record { opened = old.opened; live = without channel old.live }
channels_by Silence old = old

-- the channels that inputs leave of those before
abbrev pub channels_after : List LaneInput → Channels → Channels
channels_after [] before = before
channels_after (input ∷ older) before = channels_by input (channels_after older before)

-- the input can come: a channel is opened under the next number, is live from then to its end, and only a
-- live one has bytes and an end
abbrev pub IsInTurn : LaneInput → Channels → Type 0
IsInTurn (Opened channel) channels = channel ≡ channels.opened
IsInTurn (Came channel value) channels = is_live channel channels.live ≡ true
IsInTurn (Ended channel) channels = is_live channel channels.live ≡ true
IsInTurn Silence channels = Unit {0}

abbrev pub AreInTurn : List LaneInput → Channels → Type 0
AreInTurn [] before = Unit {0}
AreInTurn (input ∷ older) before = AreInTurn older before × IsInTurn input (channels_after older before)
