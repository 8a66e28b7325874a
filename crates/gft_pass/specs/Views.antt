-- What the seats of a transfer's table know, and the rule that ties them.
use Rattle.std.specs.Prelude.{◌≡◌, ℕ, ◌+◌, ◌<◌, List, [], replicate, set, slice_index_or, true, false}
use mathlib.Core.Option.{some}
use lib.ListN.{get_elem?}
use Rattle.gft_pass.specs.declared.numbers.Numbers.{Numbers}
use Rattle.gft_pass.specs.declared.view.View.{View}
use Rattle.gft_pass.specs.Ledger.{IsAt, nothing}

-- ---- views

-- a seat that knows nothing
abbrev pub blank_view : View
blank_view = record {
  keeps_list = false;
  counts = [];
  dealt = 0;
  has_lane = false;
  lane = 0;
  count = nothing;
}

-- the roster's seat, with no pass joined in: the list, and how many lanes were dealt
abbrev pub list_view : List Numbers → ℕ → View
list_view counts dealt = record {
  keeps_list = true;
  counts = counts;
  dealt = dealt;
  has_lane = false;
  lane = 0;
  count = nothing;
}

-- a pass's seat
abbrev pub lane_view : ℕ → Numbers → View
lane_view lane count = record {
  keeps_list = false;
  counts = [];
  dealt = 0;
  has_lane = true;
  lane = lane;
  count = count;
}

abbrev pub opening_view : ℕ → View
opening_view lanes = list_view (replicate lanes nothing) 0

-- ---- steps

-- the next lane's pass comes off the roster's seat
abbrev pub behind_deal : View → View
behind_deal v = list_view v.counts (v.dealt + 1)

abbrev pub next_lane : View → View
next_lane v = lane_view v.dealt (slice_index_or v.counts v.dealt nothing)

-- a pass's seat goes into the roster's, and comes off it
abbrev pub with_lane : View → View → View
with_lane v w = record {
  keeps_list = v.keeps_list;
  counts = v.counts;
  dealt = v.dealt;
  has_lane = w.has_lane;
  lane = w.lane;
  count = w.count;
}

abbrev pub without_lane : View → View
without_lane v = list_view v.counts v.dealt

abbrev pub its_lane : View → View
its_lane v = lane_view v.lane v.count

-- the joined lane's numbers become others, and the listed ones with them
abbrev pub changed : Numbers → View → View
changed numbers v = record v { counts = set v.counts v.lane numbers; count = numbers }

-- the joined lane's numbers are the listed ones
abbrev pub IsListed : View → Type 0
IsListed v = IsAt v.counts v.lane v.count

-- ---- the rule

-- the view of the seat `by`, where the seat `keeper` alone has the list, and so many lanes were dealt: a lane
-- that it has was dealt, and has its listed numbers
abbrev pub AgreesWith : ℕ → List Numbers → ℕ → ℕ → View → Type 0
AgreesWith keeper counts dealt by v =
    (v.keeps_list ≡ true → (by ≡ keeper) × (v.counts ≡ counts) × (v.dealt ≡ dealt))
    × (v.has_lane ≡ true → (v.lane < dealt) × IsAt counts v.lane v.count)

abbrev pub AllAgree : ℕ → List Numbers → ℕ → List View → Type 0
AllAgree keeper counts dealt views =
    (by : ℕ) (v : View) → get_elem? views by ≡ some v → AgreesWith keeper counts dealt by v

-- no two seats have one lane
abbrev pub HaveOwnLanes : List View → Type 0
HaveOwnLanes views =
    (i j : ℕ) (v w : View) → get_elem? views i ≡ some v → get_elem? views j ≡ some w
    → v.has_lane ≡ true → w.has_lane ≡ true → v.lane ≡ w.lane → i ≡ j

-- the views are those of one transfer's seats
abbrev pub AreSeats : List View → Type 0
AreSeats views =
    (keeper : ℕ) × (counts : List Numbers) × (dealt : ℕ)
    × AllAgree keeper counts dealt views × HaveOwnLanes views
