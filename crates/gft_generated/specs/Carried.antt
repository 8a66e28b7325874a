-- What the data connections of a new lane carry.
use Rattle.std.specs.Prelude.{◌≡◌, ℕ, ◌-◌, ◌≤◌, ◌==◌, ◌&&◌, if◌then◌else◌, List, [], length, take}
use Rattle.std.specs.Prelude.{Option, None, Some, slice_get}
use Rattle.gft_range.specs.declared.Range.{Range}
use Rattle.gft_generated.specs.Lanes.{OnLane}
use Rattle.gft_generated.specs.Streams.{generated_stream}
use Rattle.gft_generated.specs.declared.lanes.Cut.{Cut}
use Rattle.gft_generated.specs.declared.lanes.Generated.{Generated}

-- behind how many bytes this data connection is lost at the latest, if it is
abbrev pub lost_behind : Option Cut → ℕ → ℕ → Option ℕ
lost_behind None stripe channel = None
lost_behind (Some cut) stripe channel =
    if (cut.stripe == stripe) && (cut.channel == channel) then Some cut.most else None

-- a front of at most so many bytes
pub record IsCut (most : ℕ) (whole bytes : List ℕ) : Type 0 where
  pub count : ℕ
  pub few : count ≤ most
  pub front : bytes ≡ take count whole

abbrev pub IsFront : Option ℕ → List ℕ → List ℕ → Type 0
IsFront None whole bytes = bytes ≡ whole
IsFront (Some most) whole bytes = IsCut most whole bytes

-- its stream of the file, or where it is lost a front of that
abbrev pub IsCarried : Generated → List Range → Option Cut → ℕ → ℕ → List ℕ → Type 0
IsCarried file done cut stripe channel bytes =
    IsFront (lost_behind cut stripe channel) (generated_stream file done stripe channel) bytes

-- a new lane on which the file comes: its data connections wait, the first one last
pub record CarriesFile (file : Generated) (done : List Range) (cut : Option Cut) (stripe : ℕ) (lane : OnLane)
    : Type 0 where
  pub many : length lane.waiting ≡ 4
  pub unopened : lane.opened ≡ []
  pub each : (k : ℕ) (bytes : List ℕ) → slice_get lane.waiting k ≡ Some bytes
      → IsCarried file done cut stripe (3 - k) bytes
