-- The stripes of a sender whose data connections are opened, and what is left where none are.
use Rattle.std.specs.Prelude.{◌≡◌, ℕ, ◌≤◌, List, [], All, Ok, vec_capacity, vec_len}
use Rattle.gft_base.specs.Words.{Rose}
use Rattle.gft_text.specs.declared.host_port.HostPort.{HostPort}
use Rattle.gft_outside.specs.Words.{IsNewOutLane, LinkState, OutLaneState}
use Rattle.gft_send.specs.declared.transfer.Stripe.{Stripe}
use Rattle.gft_dial.specs.declared.error.DialError.{DialError}
use Rattle.gft_dial.specs.declared.error.DialError.TheVariants as errors
use Rattle.gft_dial.specs.Dials.{ReturnsOut, StopsAt}

-- it has so many data connections, on which nothing was put yet, and wasn't sent
pub record IsNewStripe {D X : Type 0} (state : X → OutLaneState) (channels : ℕ) (stripe : Stripe D X)
    : Type 0 where
  pub count : vec_len stripe.channels ≡ channels
  pub new : All (λ out. IsNewOutLane (state out)) stripe.channels.items
  pub unsent : stripe.sent ≡ Ok 0

-- it has no data connection yet, and room for so many
pub record IsUnopened {D X : Type 0} (channels : ℕ) (stripe : Stripe D X) : Type 0 where
  pub none : stripe.channels.items ≡ []
  pub room : channels ≤ vec_capacity stripe.channels
  pub unsent : stripe.sent ≡ Ok 0

-- a dial failed, and the out lanes of those before it, on which nothing was put, were given back
pub record DialsFailed {L X : Type 0} (state : X → OutLaneState) (places : List HostPort)
    (old new : LinkState L X) : Type 0 where
  pub outs : List X
  pub mid : LinkState L X
  pub stops : StopsAt places old mid outs
  pub unused : All (λ out. IsNewOutLane (state out)) outs
  pub returned : ReturnsOut state mid new outs
  -- as many are handed out as before, and the count of faults rose
  pub handed_out : new.handed_out ≡ old.handed_out
  pub rose : Rose old.faults new.faults

-- a dial failed, or memory was refused before the first one
abbrev pub DialsNone : {L X : Type 0} → (X → OutLaneState) → List HostPort → LinkState L X → LinkState L X
    → DialError → Type 0
DialsNone state places old new errors.Failed = DialsFailed state places old new
DialsNone state places old new errors.OutOfMemory = new ≡ old
