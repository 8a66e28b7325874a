-- What a link hands out and takes back.
use Rattle.std.specs.Prelude.{◌≡◌, ℕ, ◌+◌, ◌-◌, ◌^◌, min, true, false}
use Rattle.std.specs.Prelude.{List, [], ◌∷◌, ◌++◌, length, Option, None, Some, IfSome}
use Rattle.gft_base.specs.Words.{Rose}
use Rattle.gft_text.specs.declared.host_port.HostPort.{HostPort}
use Rattle.gft_outside.specs.LaneInputs.{no_channels}
use Rattle.gft_outside.specs.LaneStates.{LaneState}
use Rattle.gft_outside.specs.OutLanes.{OutLaneState}
use Rattle.gft_outside.specs.Told.{Gains}
use Rattle.gft_outside.specs.declared.link.Dial.{Dial}
use Rattle.gft_outside.specs.declared.link.LinkError.{LinkError}
use Rattle.gft_outside.specs.declared.link.LinkError.TheVariants as error
use Rattle.gft_outside.specs.declared.link.Listening.{Listening}

pub record LinkState (L X : Type 0) : Type 0 where
  -- the lanes and the dials to come, the next one first, if the link tells them
  pub lanes : Option (List (Listening L))
  pub dials : Option (List (Dial X))
  -- what was given back, the newest first, if the link tells it
  pub back : Option (List L)
  pub back_out : Option (List X)
  -- how many are handed out
  pub handed_out : ℕ
  -- how often a call failed, with the faults of what was given back
  pub faults : ℕ

-- what is to come loses these from its front; nothing is said where it isn't told
abbrev pub Deals : {A : Type 0} → Option (List A) → Option (List A) → List A → Type 0
Deals None new dealt = Unit {0}
Deals (Some old) None dealt = ⊥
Deals (Some old) (Some new) dealt = old ≡ dealt ++ new

-- no channel was opened yet, and no call failed
pub record IsNewLane (lane : LaneState) : Type 0 where
  pub taken : IfSome lane.taken (λ taken. taken ≡ [])
  pub channels : lane.channels ≡ no_channels
  pub more : lane.is_done ≡ false
  pub faults : lane.faults ≡ 0

-- nothing was put yet, and no call failed
pub record IsNewOutLane (out : OutLaneState) : Type 0 where
  pub written : IfSome out.written (λ written. written ≡ [])
  pub more : out.is_open ≡ true
  pub faults : out.faults ≡ 0

-- the next lanes of those to come are handed out
pub record HandsOut {L X : Type 0} (old new : LinkState L X) (lanes : List (Listening L)) : Type 0 where
  pub dealt : Deals old.lanes new.lanes lanes
  pub dials : new.dials ≡ old.dials
  pub back : new.back ≡ old.back
  pub back_out : new.back_out ≡ old.back_out
  pub handed_out : new.handed_out ≡ old.handed_out + length lanes
  pub faults : new.faults ≡ old.faults

-- the next dial of those to come is made, to its address
pub record Dialled {L X : Type 0} (old new : LinkState L X) (dial : Dial X) : Type 0 where
  pub dealt : Deals old.dials new.dials (dial ∷ [])
  pub lanes : new.lanes ≡ old.lanes
  pub back : new.back ≡ old.back
  pub back_out : new.back_out ≡ old.back_out
  pub handed_out : new.handed_out ≡ old.handed_out + 1
  pub faults : new.faults ≡ old.faults

-- a call failed, and that is all
pub record NotDialled {L X : Type 0} (old new : LinkState L X) : Type 0 where
  pub rose : Rose old.faults new.faults
  pub nothing_else : new ≡ record old { faults = new.faults }

-- no lane is handed out: a call failed, or memory was refused, and that is all
abbrev pub NotHandedOut : {L X : Type 0} → LinkState L X → LinkState L X → LinkError → Type 0
NotHandedOut old new error.Failed = NotDialled old new
NotHandedOut old new error.OutOfMemory = new ≡ old

-- so many faults more, or as many as can be counted
abbrev pub more_faults : ℕ → ℕ → ℕ
more_faults count own = min (count + own) (2 ^ 64 - 1)

-- a lane was given back, with its own faults
pub record TakesBack {L X : Type 0} (old new : LinkState L X) (lane : L) (own : ℕ) : Type 0 where
  pub back : Gains old.back new.back (lane ∷ [])
  pub lanes : new.lanes ≡ old.lanes
  pub dials : new.dials ≡ old.dials
  pub back_out : new.back_out ≡ old.back_out
  pub handed_out : new.handed_out + 1 ≡ old.handed_out
  pub faults : new.faults ≡ more_faults old.faults own

-- an out lane was given back, with its own faults
pub record TakesBackOut {L X : Type 0} (old new : LinkState L X) (out : X) (own : ℕ) : Type 0 where
  pub back_out : Gains old.back_out new.back_out (out ∷ [])
  pub lanes : new.lanes ≡ old.lanes
  pub dials : new.dials ≡ old.dials
  pub back : new.back ≡ old.back
  pub handed_out : new.handed_out + 1 ≡ old.handed_out
  pub faults : new.faults ≡ more_faults old.faults own

-- the next dial is one to this address
abbrev pub IsDialTo : {X : Type 0} → HostPort → List (Dial X) → Type 0
IsDialTo at [] = ⊥
IsDialTo at (dial ∷ dials) = dial.at ≡ at
