-- What each outcome says of the bytes that were taken of the input, and of what is left of it.
use Rattle.std.specs.Prelude.{◌≡◌, ◌≢◌, ℕ, ◌+◌, ◌<◌, ◌≤◌, ◌⊎◌, ◌↔◌, List, [], ◌∷◌, ◌++◌, length, Option, None}
use Rattle.std.specs.Prelude.{Some, IsSome}
use Rattle.std.specs.Io.KnownBytes.{IsAtEnd}
use Rattle.gft_eblock.specs.Words.{Arrival, Refusal, Bad, Arrives, totals, eods, arrivals}
use Rattle.gft_eblock.specs.Words.{IsUnfinished, data_at, refusal_of}
use Rattle.gft_core.specs.Words.{Done}
use Rattle.gft_range.specs.declared.Range.{Range}
use Rattle.gft_range.specs.Words.{InRange, HasOffset, IsNormal}
use Rattle.gft_eblock.specs.declared.TheConstants.{MAX_BYTES}
use Rattle.gft_eod.specs.declared.EodError.{EodError}
use Rattle.gft_eod.specs.Words.{eof_refusal}
use Rattle.gft_drive.specs.declared.TheConstants.{MAX_RANGES}
use Rattle.gft_keep.specs.Words.{IsFull, block_of}
use Rattle.gridftpd.specs.Events.{events_of}
use Rattle.gft_outside.specs.Words.{AreAgreed, HasNoBad, first_of}
use Rattle.gridftpd.specs.declared.outcome.Outcome.{Outcome}
use Rattle.gridftpd.specs.declared.outcome.Outcome.TheVariants as outcome

-- the arrivals of the one recorded channel
abbrev pub told_by : List ℕ → List Arrival
told_by stream = arrivals 0 stream

-- the input ended after a byte, without an EOD
pub record IsLost (stream : List ℕ) (left : Option (List ℕ)) (taken : ℕ) : Type 0 where
  pub some : 0 < taken
  pub taken_is : length stream ≡ taken
  pub unfinished : IsUnfinished (told_by stream)
  pub at_end : IsAtEnd left

-- the first offsets below the greatest end at which no byte arrives; none where there are none
abbrev pub IsFirstMissing : List Arrival → Option Range → Type 0
IsFirstMissing list None = (x y : ℕ) → x < y → Arrives list y → Arrives list x
IsFirstMissing list (Some gap) =
    (gap.start < gap.end) × ((x : ℕ) → x < gap.start → Arrives list x)
    × ((x : ℕ) → InRange gap x → ¬ Arrives list x) × Arrives list gap.end

-- no byte came, or the EOD did; and the total isn't met, or offsets are missing
pub record HasHole (stream : List ℕ) (left : Option (List ℕ)) (total : Option ℕ) (number : ℕ)
    (missing : Option Range) : Type 0 where
  pub ended : ((stream ≡ []) × IsAtEnd left) ⊎ (eods (told_by stream) ≡ 1)
  pub announced : total ≡ first_of (totals (told_by stream))
  pub counted : number ≡ eods (told_by stream)
  pub first_missing : IsFirstMissing (told_by stream) missing
  pub why : (total ≢ Some number) ⊎ IsSome missing

-- the normal list of the offsets at which bytes arrive has at most so many ranges
abbrev pub HasRangesAtMost : ℕ → List Arrival → Type 0
HasRangesAtMost most list =
    (ranges : List Range) → IsNormal ranges → ((x : ℕ) → HasOffset ranges x ↔ Arrives list x)
    → length ranges ≤ most

-- nothing that ends an intake is among the arrivals: no EOD, no bad header, no total that is refused, and at
-- most one range more than may be kept, which the rest of its piece may still join
pub record EndsNothing (list : List Arrival) : Type 0 where
  pub unfinished : IsUnfinished list
  pub agreed : AreAgreed (totals list)
  pub few : HasRangesAtMost (MAX_RANGES + 1) list

-- nothing but ranges can refuse these bytes: they are fewer than 2^58, and bring no bad header and no total
-- that is refused
pub record IsSoundStream (stream : List ℕ) : Type 0 where
  pub short : length stream < MAX_BYTES
  pub no_bad : HasNoBad (told_by stream)
  pub agreed : AreAgreed (totals (told_by stream))

-- nothing that refuses an intake before its EOD was met in these bytes
pub record MeetsNone (stream : List ℕ) : Type 0 where
  pub sound : IsSoundStream stream
  pub few : HasRangesAtMost MAX_RANGES (told_by stream)

-- the first of the totals that is refused, and why
pub record IsMiscounted (stream : List ℕ) (error : EodError) : Type 0 where
  pub short : length stream < MAX_BYTES
  pub earlier : List ℕ
  pub total : ℕ
  pub later : List ℕ
  pub split : totals (told_by stream) ≡ earlier ++ total ∷ later
  pub agreed : AreAgreed earlier
  pub refused : eof_refusal (record { total = first_of earlier; eods = 0 }) total ≡ Some error
  pub few : HasRangesAtMost MAX_RANGES (told_by stream)

-- as many ranges arrived as may be kept, and a piece of data behind them makes one more
pub record NeedsMoreRanges (stream : List ℕ) : Type 0 where
  pub sound : IsSoundStream stream
  pub front : List ℕ
  pub piece : List ℕ
  pub split : stream ≡ front ++ piece
  pub offset : ℕ
  pub bytes : List ℕ
  pub behind : List Arrival
  pub brought : told_by stream ≡ told_by front ++ (data_at offset bytes ++ behind)
  pub ranges : List Range
  pub offsets : (x : ℕ) → HasOffset ranges x ↔ Arrives (told_by front) x
  pub full : IsFull ranges (block_of offset bytes)

-- a bad header ends the arrivals, and its 17th byte is the last that was taken
pub record EndsBad (stream : List ℕ) (refused : Refusal) : Type 0 where
  pub short : length stream < MAX_BYTES
  pub earlier : List Arrival
  pub unfinished : IsUnfinished earlier
  pub split : told_by stream ≡ earlier ++ Bad refused ∷ []
  pub last : length stream ≡ refused.place + 17
  pub agreed : AreAgreed (totals (told_by stream))
  pub few : HasRangesAtMost MAX_RANGES (told_by stream)

-- what an outcome says of the bytes that were taken, and of those that are left: it is met, and nothing that
-- is answered before it is; a fault, want of memory and a damage are met by no byte
abbrev pub IsCause : Outcome → List ℕ → Option (List ℕ) → Type 0
IsCause outcome.Complete stream left = MeetsNone stream × Done (events_of (told_by stream))
IsCause (outcome.Lost taken) stream left = MeetsNone stream × IsLost stream left taken
IsCause (outcome.Hole total number missing) stream left =
    MeetsNone stream × HasHole stream left total number missing
IsCause (outcome.BadBlock bad) stream left = EndsBad stream (refusal_of bad)
IsCause (outcome.CountRefused error) stream left = IsMiscounted stream error
IsCause outcome.TooLong stream left = length stream ≡ MAX_BYTES
IsCause (outcome.RangesFull kept) stream left = (kept ≡ MAX_RANGES) × NeedsMoreRanges stream
IsCause outcome.Damaged stream left = stream ≡ []
IsCause outcome.ReadFailed stream left = MeetsNone stream × IsUnfinished (told_by stream)
IsCause outcome.DriveFailed stream left = MeetsNone stream
IsCause outcome.OutOfMemory stream left = MeetsNone stream
