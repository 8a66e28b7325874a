-- What the memory form of a lane shows, and which items can come.
use Rattle.std.specs.Prelude.{ℕ, ◌==◌, ◌||◌, ◌&&◌, not, Bool, true, false, if◌then◌else◌, List, [], ◌∷◌}
use Rattle.std.specs.Prelude.{take, drop, map, reverse, flat_map, Some}
use Rattle.gft_outside.specs.LaneInputs.{LaneInput, Opened, Came, Ended, Silence}
use Rattle.gft_outside.specs.LaneInputs.{Channels, no_channels, channels_after, is_live}
use Rattle.gft_outside.specs.LaneStates.{LaneState}
use Rattle.gft_outside.specs.Lists.{Failures, Script}
use Rattle.gft_outside.specs.declared.lane_item.LaneItem.{LaneItem}
use Rattle.gft_outside.specs.declared.lane_item.LaneItem.TheVariants as item

-- what an item tells, in order
abbrev pub lane_inputs : LaneItem → List LaneInput
lane_inputs (item.Opened channel) = Opened channel ∷ []
lane_inputs (item.Bytes channel bytes) = map (λ value. Came channel value) bytes
lane_inputs (item.Ended channel) = Ended channel ∷ []
lane_inputs item.Quiet = Silence ∷ []

abbrev pub can_come : Channels → LaneItem → Bool
can_come channels (item.Opened channel) = channels.opened == channel
can_come channels (item.Bytes channel bytes) = is_live channel channels.live
can_come channels (item.Ended channel) = is_live channel channels.live
can_come channels item.Quiet = true

abbrev pub channels_behind : LaneItem → Channels → Channels
channels_behind item before = channels_after (reverse (lane_inputs item)) before

-- the channels that these items leave
abbrev pub channels_of : List LaneItem → Channels
channels_of items = channels_after (reverse (flat_map lane_inputs items)) no_channels

-- how many channels an item opens
abbrev pub opened_by : LaneItem → ℕ
opened_by (item.Opened channel) = 1
opened_by (item.Bytes channel bytes) = 0
opened_by (item.Ended channel) = 0
opened_by item.Quiet = 0

-- whether a channel is live behind an item, by whether it was before
abbrev pub live_by : ℕ → LaneItem → Bool → Bool
live_by channel (item.Opened number) was_live = (number == channel) || was_live
live_by channel (item.Bytes number bytes) was_live = was_live
live_by channel (item.Ended number) was_live = not (number == channel) && was_live
live_by channel item.Quiet was_live = was_live

-- the items up to the first that can't come where it stands
abbrev pub front_in_turn : Channels → List LaneItem → List LaneItem
front_in_turn channels [] = []
front_in_turn channels (item ∷ items) =
    if can_come channels item then item ∷ front_in_turn (channels_behind item channels) items else []

pub record LaneList : Type 0 where
  pub script : Script LaneInput
  pub failing : Failures
  pub is_done : Bool
  pub faults : ℕ

abbrev pub lane_state : LaneList → LaneState
lane_state lane = record {
  taken = Some (reverse (take lane.script.place lane.script.all));
  left = Some (drop lane.script.place lane.script.all);
  channels = channels_after (reverse (take lane.script.place lane.script.all)) no_channels;
  is_done = lane.is_done;
  faults = lane.faults;
}

-- a lane that has all this left, and on which these calls are to fail
abbrev pub new_lane : List LaneInput → List ℕ → LaneList
new_lane all failing = record {
  script = record { all = all; place = 0 };
  failing = record { numbers = failing; calls = 0 };
  is_done = false;
  faults = 0;
}
