-- The causes that a lane shows: the table, as a function of what came on it. Lists of inputs are newest
-- first.
use Rattle.std.specs.Prelude.{ℕ, ◌+◌, ◌||◌, if◌then◌else◌, nat_le, nat_lt, List, [], ◌∷◌, length}
use Rattle.std.specs.Prelude.{Option, Some, None}
use Rattle.gft_eblock.specs.declared.BadBlock.{BadBlock}
use Rattle.gft_eblock.specs.declared.TheConstants.{MAX_BYTES}
use Rattle.gft_eblock.specs.Words.{Arrival, At, Bad, Eod, Eof, Refusal, arrivals, eods}
use Rattle.gft_outside.specs.declared.TheConstants.{MAX_LIVE, MAX_OPENED}
use Rattle.gft_outside.specs.Words.{Came, Channels, Ended, LaneInput, Opened, Silence, byte_count}
use Rattle.gft_outside.specs.Words.{channels_after, no_channels, stream}
use Rattle.gft_pass.specs.declared.Cause.{Cause}
use Rattle.gft_pass.specs.declared.Cause.TheVariants.{BadBlock as BadBlockCame, Lost, StreamTooLong}
use Rattle.gft_pass.specs.declared.Cause.TheVariants.{TooManyChannels}

-- the earlier cause, if there is one
abbrev pub or_later : Option Cause → Option Cause → Option Cause
or_later None later = later
or_later (Some earlier) later = Some earlier

-- the header that is refused among arrivals
abbrev pub refused_in : List Arrival → Option Refusal
refused_in [] = None
refused_in (At offset value ∷ list) = refused_in list
refused_in (Eof total ∷ list) = refused_in list
refused_in (Eod ∷ list) = refused_in list
refused_in (Bad refusal ∷ list) = Some refusal

abbrev pub block_of_refusal : Refusal → BadBlock
block_of_refusal r = record { place = r.place; flags = r.flags; count = r.count; offset = r.offset }

-- a header of the channel was refused
abbrev pub bad_block : ℕ → ℕ → Option Refusal → Option Cause
bad_block lane channel None = None
bad_block lane channel (Some r) = Some (BadBlockCame lane channel (block_of_refusal r))

-- so many bytes were taken from the lane
abbrev pub too_long : ℕ → ℕ → Option Cause
too_long lane count = if nat_lt count MAX_BYTES then None else Some (StreamTooLong lane)

-- one more channel is opened beside these
abbrev pub too_many : ℕ → Channels → Option Cause
too_many lane before =
    if nat_le MAX_LIVE (length before.live) || nat_le MAX_OPENED before.opened
    then Some (TooManyChannels lane before.opened (length before.live))
    else None

-- a channel with this stream ends: it had given bytes, and not its EOD
abbrev pub lost : ℕ → ℕ → ℕ → List ℕ → Option Cause
lost lane shift channel [] = None
lost lane shift channel (byte ∷ bytes) =
    if nat_lt 0 (eods (arrivals shift (byte ∷ bytes)))
    then None
    else Some (Lost lane channel (length (byte ∷ bytes)))

-- the cause that an input shows, behind those before it
abbrev pub cause_at : ℕ → ℕ → LaneInput → List LaneInput → Option Cause
cause_at lane shift (Opened channel) older = too_many lane (channels_after older no_channels)
cause_at lane shift (Came channel value) older =
    or_later
    (bad_block lane channel (refused_in (arrivals shift (stream channel (Came channel value ∷ older)))))
    (too_long lane (byte_count (Came channel value ∷ older)))
cause_at lane shift (Ended channel) older = lost lane shift channel (stream channel older)
cause_at lane shift Silence older = None

-- the first cause that the inputs show
abbrev pub first_cause : ℕ → ℕ → List LaneInput → Option Cause
first_cause lane shift [] = None
first_cause lane shift (input ∷ older) =
    or_later (first_cause lane shift older) (cause_at lane shift input older)

-- for how long the lane has been silent
abbrev pub silences : List LaneInput → ℕ
silences [] = 0
silences (Opened channel ∷ older) = 0
silences (Came channel value ∷ older) = 0
silences (Ended channel ∷ older) = 0
silences (Silence ∷ older) = silences older + 1
