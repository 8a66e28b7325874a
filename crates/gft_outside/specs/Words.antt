-- The words of this crate that the clauses and proofs of other crates may cite.
pub use Rattle.gft_outside.specs.Clocks.{Ticks}
pub use Rattle.gft_outside.specs.ControlInputs.{ControlEnds, ControlInput, ControlState, HeardFits, Hears}
pub use Rattle.gft_outside.specs.ControlInputs.{Pause, Said, heard_by, said}
pub use Rattle.gft_outside.specs.ControlScripts.{ControlList, control_inputs, control_state, new_control}
pub use Rattle.gft_outside.specs.Gates.{Gate, GateAnswers, GateCounts, gate_state}
pub use Rattle.gft_outside.specs.Honest.{HasNoBad, IsHonestLane, IsTruthful, arrival_event, arrival_events}
pub use Rattle.gft_outside.specs.LaneArrivals.{OnlyOn, gained, lane_arrivals, stream}
pub use Rattle.gft_outside.specs.LaneInputs.{AreInTurn, Came, Channels, Ended, IsInTurn, LaneInput, Opened}
pub use Rattle.gft_outside.specs.LaneInputs.{Silence, channels_after, is_live, no_channels, without}
pub use Rattle.gft_outside.specs.LaneScripts.{LaneList, front_in_turn, lane_inputs, lane_state, new_lane}
pub use Rattle.gft_outside.specs.LaneStates.{EventFits, Gives, LaneEnds, LaneState, ends_lane, given_by}
pub use Rattle.gft_outside.specs.Links.{Deals, Dialled, HandsOut, IsDialTo, IsNewLane, IsNewOutLane, LinkState}
pub use Rattle.gft_outside.specs.Links.{NotDialled, NotHandedOut, TakesBack, TakesBackOut, more_faults}
pub use Rattle.gft_outside.specs.Lists.{Failures, FailsBy, Script, counted, fails_next}
pub use Rattle.gft_outside.specs.MemoryLinks.{DialsBy, LinkList, ListensBy, TakesIn, TakesOut, has_unused_lane}
pub use Rattle.gft_outside.specs.MemoryLinks.{has_unused_out, link_state, listen_fails, new_link}
pub use Rattle.gft_outside.specs.MemoryShelves.{FindsIn, IsMadeOn, Making, MakesIn, RemovesIn, ShelfList}
pub use Rattle.gft_outside.specs.MemoryShelves.{drive_under, is_under, new_shelf, shelf_state, without_name}
pub use Rattle.gft_outside.specs.OutLanes.{OutLaneList, OutLaneState, PutsBy, PutsOut, new_out_lane}
pub use Rattle.gft_outside.specs.OutLanes.{out_lane_state, put_fails, put_takes}
pub use Rattle.gft_outside.specs.Shelves.{CountsShelf, FindsDrive, FindsNone, HasUnder, IsNewDrive, MakesDrive}
pub use Rattle.gft_outside.specs.Shelves.{NotFound, NotMade, NotRemoved, RemovesName, SameDrives, SameOthers}
pub use Rattle.gft_outside.specs.Shelves.{ShelfState}
pub use Rattle.gft_outside.specs.Told.{Gains, IsOver, Loses}
pub use Rattle.gft_outside.specs.Totals.{AllAre, AreAgreed, first_of}
pub use Rattle.gft_outside.specs.Whole.{AreWhole, AreWholeParts, EndsItsChannels, IsSmooth, IsWholeLane}
pub use Rattle.gft_outside.specs.Whole.{IsWholePart, all_eods, all_totals, byte_count}
