-- How an intake stands to the bytes that it took.
use Rattle.std.specs.Prelude.{◌≡◌, ℕ, ◌<◌, ◌≤◌, ◌↔◌, Some, List, [], ◌∷◌, ◌++◌, length, take, slice_index}
use Rattle.gft_eblock.specs.Words.{Arrival, Arrives, totals, eods, arrivals, IsUnfinished}
use Rattle.gft_eblock.specs.Words.{to_come}
use Rattle.gft_core.specs.Words.{kept}
use Rattle.gft_range.specs.declared.Range.{Range}
use Rattle.gft_range.specs.Words.{HasOffset, IsNormal}
use Rattle.gft_drive.specs.declared.TheConstants.{MAX_RANGES}
use Rattle.gft_eblock.specs.declared.TheConstants.{MAX_BYTES}
use Rattle.gft_drive.specs.Words.{DriveState, Image}
use Rattle.gft_keep.specs.Words.{IsOpen, keep_of}
use Rattle.gft_eod.specs.Words.{Count}
use Rattle.gridftpd.specs.Events.{events_of}
use Rattle.gft_outside.specs.Words.{first_of, AreAgreed}
use Rattle.gridftpd.specs.Cause.{told_by, EndsNothing}
use Rattle.gft_outside.specs.Words.{HasNoBad}
use Rattle.gridftpd.specs.declared.intake.Intake.{Intake}

-- at each offset of the set the file has the kept byte
abbrev pub HasKeptIn : List Arrival → List Range → List ℕ → Type 0
HasKeptIn told set file = (x : ℕ) → HasOffset set x → kept (events_of told) x ≡ Some (slice_index file x)

-- the count is that of the arrivals, and their totals agree
pub record Counts (list : List Arrival) (count : Count) : Type 0 where
  pub total : count.total ≡ first_of (totals list)
  pub eods : count.eods ≡ eods list
  pub agreed : AreAgreed (totals list)

-- a normal list with the offsets of the arrivals, of no more ranges than may be kept
pub record Books (list : List Arrival) (ranges : List Range) : Type 0 where
  pub offsets : (x : ℕ) → HasOffset ranges x ↔ Arrives list x
  pub normal : IsNormal ranges
  pub few : length ranges ≤ MAX_RANGES

-- the intake took this stream, and was told of so many EODs
pub record Follows {D : Type 0} (state : D → DriveState) (number : ℕ) (stream : List ℕ) (intake : Intake D)
    : Type 0 where
  pub told : List Arrival
  pub carried : (later : List ℕ) → arrivals 0 (stream ++ later) ≡ told ++ to_come intake.channel later
  pub booked : Books told (keep_of state intake.keep).ranges
  pub kept : (read : Image) → (keep_of state intake.keep).drive.contents ≡ Some read
      → HasKeptIn told (keep_of state intake.keep).ranges read.bytes
  pub is_open : IsOpen (keep_of state intake.keep)
  pub counted : Counts told intake.count
  pub sound : HasNoBad told
  pub eods : eods told ≡ number
  pub taken : intake.channel.taken ≡ length stream
  pub short : length stream < MAX_BYTES
  pub unfinished : number ≡ 0 → IsUnfinished told
  pub in_time : (n : ℕ) → n < length stream → EndsNothing (told_by (take n stream))
