-- What a link does where data connections are opened one after another, and where they are given back.
use Rattle.std.specs.Prelude.{◌≡◌, ℕ, ◌+◌, List, [], ◌∷◌, ◌++◌, length, reverse, Result, Ok, Err}
use Rattle.std.specs.List.{flat_map, fold, repeat}
use Rattle.gft_text.specs.declared.host_port.HostPort.{HostPort}
use Rattle.gft_outside.specs.Words.{Deals, Gains, LinkState, NotDialled, OutLaneState, more_faults}
use Rattle.gft_outside.specs.declared.link.Dial.{Dial}
use Rattle.gft_send.specs.declared.transfer.Stripe.{Stripe}

-- each place as often as there are data connections to it
abbrev pub each_times : ℕ → List HostPort → List HostPort
each_times channels places = flat_map (λ at. repeat channels (at ∷ [])) places

-- the data connections of all stripes, in order
abbrev pub outs_of : {D X : Type 0} → List (Stripe D X) → List X
outs_of stripes = flat_map (λ stripe. stripe.channels.items) stripes

-- ---- opened

-- the first place got the first out lane, and so on
abbrev pub in_pairs : {X : Type 0} → List HostPort → List X → List (Dial X)
in_pairs [] outs = []
in_pairs (at ∷ places) [] = []
in_pairs (at ∷ places) (out ∷ outs) = record { at = at; out = out } ∷ in_pairs places outs

-- the next dials of those to come are made, one to each place, in order, and give these out lanes
pub record DialsTo {L X : Type 0} (old new : LinkState L X) (places : List HostPort) (outs : List X)
    : Type 0 where
  pub count : length outs ≡ length places
  pub dealt : Deals old.dials new.dials (in_pairs places outs)
  pub lanes : new.lanes ≡ old.lanes
  pub back : new.back ≡ old.back
  pub back_out : new.back_out ≡ old.back_out
  pub handed_out : new.handed_out ≡ old.handed_out + length outs
  pub faults : new.faults ≡ old.faults

-- the dials to the first of these places were made, and the next one failed
pub record StopsAt {L X : Type 0} (places : List HostPort) (old new : LinkState L X) (outs : List X)
    : Type 0 where
  pub made : List HostPort
  pub at : HostPort
  pub later : List HostPort
  pub all : places ≡ made ++ at ∷ later
  pub mid : LinkState L X
  pub dialled : DialsTo old mid made outs
  pub refused : NotDialled mid new

-- all dials were made, or those up to one that failed
abbrev pub MakesDials : {T E L X : Type 0} → Result T E → List HostPort → LinkState L X → LinkState L X
    → List X → Type 0
MakesDials (Ok value) places old new outs = DialsTo old new places outs
MakesDials (Err error) places old new outs = StopsAt places old new outs

-- ---- given back

-- the count with the faults of these out lanes, one after another, as far as it can be counted
abbrev pub with_faults : {X : Type 0} → (X → OutLaneState) → ℕ → List X → ℕ
with_faults state count outs = fold (λ n out. more_faults n (state out).faults) count outs

-- the out lanes were given back, in order, each with its own faults
pub record ReturnsOut {L X : Type 0} (state : X → OutLaneState) (old new : LinkState L X) (outs : List X)
    : Type 0 where
  pub back_out : Gains old.back_out new.back_out (reverse outs)
  pub lanes : new.lanes ≡ old.lanes
  pub dials : new.dials ≡ old.dials
  pub back : new.back ≡ old.back
  pub handed_out : new.handed_out + length outs ≡ old.handed_out
  pub faults : new.faults ≡ with_faults state old.faults outs
