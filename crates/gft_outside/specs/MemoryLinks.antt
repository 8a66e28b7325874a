-- What the memory form of a link shows.
use Rattle.std.specs.Prelude.{◌≡◌, ℕ, ◌+◌, ◌-◌, ◌==◌, ◌⊎◌, nat_lt, Bool, true, false, ◌||◌, ◌&&◌}
use Rattle.std.specs.Prelude.{List, [], ◌∷◌, length, take, drop, Some, Result, Ok, Err}
use Rattle.gft_base.specs.Words.{one_more}
use Rattle.gft_text.specs.declared.host_port.HostPort.{HostPort}
use Rattle.gft_outside.specs.LaneScripts.{LaneList}
use Rattle.gft_outside.specs.Links.{IsDialTo, LinkState, more_faults}
use Rattle.gft_outside.specs.Lists.{Failures, counted, fails_next}
use Rattle.gft_outside.specs.OutLanes.{OutLaneList}
use Rattle.gft_outside.specs.declared.link.Dial.{Dial}
use Rattle.gft_outside.specs.declared.link.LinkError.{LinkError}
use Rattle.gft_outside.specs.declared.link.LinkError.TheVariants as error
use Rattle.gft_outside.specs.declared.link.Listening.{Listening}

pub record LinkList : Type 0 where
  -- the lanes and the dials to come, the next one first
  pub lanes : List (Listening LaneList)
  pub dials : List (Dial OutLaneList)
  -- what was given back, the newest first
  pub back : List LaneList
  pub back_out : List OutLaneList
  pub handed_out : ℕ
  pub failing : Failures
  pub faults : ℕ

abbrev pub link_state : LinkList → LinkState LaneList OutLaneList
link_state link = record {
  lanes = Some link.lanes;
  dials = Some link.dials;
  back = Some link.back;
  back_out = Some link.back_out;
  handed_out = link.handed_out;
  faults = link.faults;
}

-- a link that hands out these, and whose calls of these numbers are to fail
abbrev pub new_link : List (Listening LaneList) → List (Dial OutLaneList) → List ℕ → LinkList
new_link lanes dials failing = record {
  lanes = lanes;
  dials = dials;
  back = [];
  back_out = [];
  handed_out = 0;
  failing = record { numbers = failing; calls = 0 };
  faults = 0;
}

-- no call of the lane was made yet
abbrev pub has_unused_lane : Listening LaneList → Bool
has_unused_lane listening = listening.lane.failing.calls == 0

-- no put was made on the out lane yet, and it wasn't closed
abbrev pub has_unused_out : Dial OutLaneList → Bool
has_unused_out dial = (dial.out.failing.calls == 0) && dial.out.is_open

-- a call fails that is to fail, or finds fewer lanes than it asks for
abbrev pub listen_fails : LinkList → ℕ → Bool
listen_fails link stripes = fails_next link.failing || nat_lt (length link.lanes) stripes

-- a call was counted, and that is all
abbrev pub link_called : LinkList → LinkList
link_called link = record link { failing = counted link.failing }

abbrev pub link_failed : LinkList → LinkList
link_failed link = record link { failing = counted link.failing; faults = one_more link.faults }

-- so many lanes are handed out, or the call fails where it has to, or memory is refused
abbrev pub ListensBy : {T : Type 0} → ℕ → Result T LinkError → LinkList → LinkList → Type 0
ListensBy stripes (Ok lanes) old new = (listen_fails old stripes ≡ false)
    × (new ≡ record (link_called old) {
      lanes = drop stripes old.lanes;
      handed_out = old.handed_out + stripes;
    })
ListensBy stripes (Err error.Failed) old new = (listen_fails old stripes ≡ true) × (new ≡ link_failed old)
ListensBy stripes (Err error.OutOfMemory) old new = (listen_fails old stripes ≡ false) × (new ≡ link_called old)

-- the next dial is handed out, or the call fails where it is to, and where that dial has another address
abbrev pub DialsBy : {T E : Type 0} → HostPort → Result T E → LinkList → LinkList → Type 0
DialsBy at (Ok out) old new = (fails_next old.failing ≡ false) × IsDialTo at old.dials
    × (new ≡ record (link_called old) { dials = drop 1 old.dials; handed_out = old.handed_out + 1 })
DialsBy at (Err failed) old new = ((fails_next old.failing ≡ true) ⊎ (¬ IsDialTo at old.dials))
    × (new ≡ link_failed old)

-- a lane was given back, and that is all
abbrev pub TakesIn : LaneList → LinkList → LinkList → Type 0
TakesIn lane old new = new ≡ record old {
  back = lane ∷ old.back;
  handed_out = old.handed_out - 1;
  faults = more_faults old.faults lane.faults;
}

-- an out lane was given back, and that is all
abbrev pub TakesOut : OutLaneList → LinkList → LinkList → Type 0
TakesOut out old new = new ≡ record old {
  back_out = out ∷ old.back_out;
  handed_out = old.handed_out - 1;
  faults = more_faults old.faults out.faults;
}
