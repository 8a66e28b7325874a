-- Honest senders: what the lanes of a transfer send of one source.
use Rattle.std.specs.Prelude.{◌≡◌, ◌⊎◌, ℕ, zero, suc, ◌+◌, ◌<◌, ◌≤◌, ◌==◌, List, [], ◌∷◌, ◌++◌, length}
use Rattle.std.specs.Prelude.{slice_get, Option, Some, None, if◌then◌else◌}
use Rattle.gft_range.specs.declared.Range.{Range}
use Rattle.gft_range.specs.Words.{HasOffset}
use Rattle.gft_core.specs.declared.event.CoreEvent.{CoreEvent}
use Rattle.gft_core.specs.declared.event.CoreEvent.TheVariants.{Block, Eod, Eof, Crash, Fresh, Resume}
use Rattle.gft_core.specs.Done.{since}
use Rattle.gft_core.specs.Held.{held}
use Rattle.gft_core.specs.Kept.{byte_at}
use Rattle.gft_drive.specs.Words.{IsPlan, Orders, offsets_from, total_of}

-- ---- the source's bytes

-- these bytes are the source's, and lie below its length
abbrev pub CarriesSource : List ℕ → (ℕ → Option ℕ) → Type 0
CarriesSource source bytes = (x v : ℕ) → bytes x ≡ Some v → slice_get source x ≡ Some v

-- an event behind the older ones: a block brings the source's bytes, and so does the image of a Crash that
-- begins the list
abbrev pub Brings : List ℕ → List CoreEvent → CoreEvent → Type 0
Brings source older (Block lane channel offset bytes unanswered) = CarriesSource source (byte_at offset bytes)
Brings source [] (Crash image) = CarriesSource source (held image)
Brings source older (Crash image) = Unit {0}
Brings source older e = Unit {0}

-- each event of the last generation does
abbrev pub AllBring : List ℕ → List CoreEvent → Type 0
AllBring source [] = Unit {0}
AllBring source (Fresh ∷ older) = Unit {0}
AllBring source (Crash image ∷ older) = AllBring source older × Brings source older (Crash image)
AllBring source (e ∷ older) = AllBring source older × Brings source older e

-- ---- the orders of one transfer

-- the offsets that an event brings on a lane, and the EODs there
abbrev pub offsets_on : ℕ → CoreEvent → List ℕ
offsets_on k (Block lane channel offset bytes unanswered) =
    if lane == k then offsets_from offset bytes else []
offsets_on k (Crash image) = []
offsets_on k e = []

abbrev pub eods_on : ℕ → CoreEvent → ℕ
eods_on k (Eod lane) = if lane == k then 1 else 0
eods_on k (Crash image) = 0
eods_on k e = 0

-- what came on a lane in these events, the offsets in the order in which they came
abbrev pub lane_offsets : ℕ → List CoreEvent → List ℕ
lane_offsets k [] = []
lane_offsets k (e ∷ older) = lane_offsets k older ++ offsets_on k e

abbrev pub lane_eods : ℕ → List CoreEvent → ℕ
lane_eods k [] = 0
lane_eods k (e ∷ older) = lane_eods k older + eods_on k e

module _ (orders : Orders) where
  -- an event behind the earlier ones of its transfer: a block goes on in its lane's order; an EOD is one of
  -- the lane's number, the last only behind the whole order; an EOF tells the sum of all numbers
  abbrev pub FollowsPlan : List CoreEvent → CoreEvent → Type 0
  FollowsPlan earlier (Block lane channel offset bytes unanswered) =
      (left : List ℕ) × ((lane_offsets lane earlier ++ offsets_from offset bytes) ++ left ≡ orders.order lane)
  FollowsPlan earlier (Eod lane) =
      (lane_eods lane earlier < orders.number lane)
      × (lane_eods lane earlier + 1 ≡ orders.number lane → lane_offsets lane earlier ≡ orders.order lane)
  FollowsPlan earlier (Eof total) = total ≡ total_of orders
  FollowsPlan earlier (Crash image) = Unit {0}
  FollowsPlan earlier e = Unit {0}

  -- the events of a transfer are those of the plan
  abbrev pub IsInOrder : List CoreEvent → Type 0
  IsInOrder [] = Unit {0}
  IsInOrder (e ∷ earlier) = IsInOrder earlier × FollowsPlan earlier e

-- ---- the transfer that runs

-- the list of a STOR that goes on with what is kept; an ESTO begins with an empty one, and has none here
abbrev pub list_of : List Range → Option (List Range)
list_of [] = None
list_of (r ∷ rs) = Some (r ∷ rs)

-- the REST list of the STOR that runs: the empty one if it began afresh, and nothing if none runs
abbrev pub stor_list : List CoreEvent → Option (List Range)
stor_list [] = None
stor_list (Fresh ∷ older) = Some []
stor_list (Resume list ∷ older) = list_of list.ranges
stor_list (Crash image ∷ older) = None
stor_list (e ∷ older) = stor_list older

-- the STOR that runs is one of honest senders: the last generation brings one source, and this transfer is
-- that of a plan for its list
pub record IsHonestStor (source : List ℕ) (events : List CoreEvent) : Type 0 where
  pub bring : AllBring source events
  pub list : List Range
  pub stor : stor_list events ≡ Some list
  pub orders : Orders
  pub plan : IsPlan source list orders
  pub in_order : IsInOrder orders (since events)
