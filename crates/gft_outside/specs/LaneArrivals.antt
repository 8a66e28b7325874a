-- What the bytes of a lane tell. Lists of inputs are newest first, arrivals stand in the order in which
-- they come.
use Rattle.std.specs.Prelude.{◌≡◌, ℕ, ◌==◌, if◌then◌else◌, List, [], ◌∷◌, ◌++◌, length, drop}
use Rattle.gft_eblock.specs.Words.{Arrival, arrivals}
use Rattle.gft_outside.specs.LaneInputs.{LaneInput, Came}

-- the bytes that came on a channel, in order
abbrev pub stream : ℕ → List LaneInput → List ℕ
stream channel [] = []
stream channel (Came other value ∷ older) =
    if other == channel then stream channel older ++ value ∷ [] else stream channel older
stream channel (input ∷ older) = stream channel older

-- the arrivals that a stream gains by these bytes
abbrev pub gained : ℕ → List ℕ → List ℕ → List Arrival
gained shift before bytes = drop (length (arrivals shift before)) (arrivals shift (before ++ bytes))

-- the arrivals of a lane whose offsets have `shift` added: each byte brings what its channel's stream gains
-- by it
abbrev pub lane_arrivals : ℕ → List LaneInput → List Arrival
lane_arrivals shift [] = []
lane_arrivals shift (Came channel value ∷ older) =
    lane_arrivals shift older ++ gained shift (stream channel older) (value ∷ [])
lane_arrivals shift (input ∷ older) = lane_arrivals shift older

-- each byte came on this channel
abbrev pub OnlyOn : ℕ → List LaneInput → Type 0
OnlyOn channel [] = Unit {0}
OnlyOn channel (Came other value ∷ older) = (other ≡ channel) × OnlyOn channel older
OnlyOn channel (input ∷ older) = OnlyOn channel older
