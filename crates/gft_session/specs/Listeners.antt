-- What listening does to a session, and how its lanes are given back.
use Rattle.std.specs.Prelude.{◌≡◌, ◌≤◌, All, ◌+◌, ℕ, List, [], ◌∷◌, length, map}
use Rattle.gft_text.specs.declared.host_port.HostPort.{HostPort}
use Rattle.gft_outside.specs.Words.{HandsOut, IsNewLane, LaneState, LinkState, NotHandedOut, TakesBack}
use Rattle.gft_outside.specs.declared.link.LinkError.{LinkError}
use Rattle.gft_outside.specs.declared.link.Listening.{Listening}
use Rattle.gft_session.specs.Settings.{Listeners, World, held}

-- the lanes were given back, one after another
abbrev pub Returns : {L X : Type 0} → (L → LaneState) → LinkState L X → LinkState L X → List L → Type 0
Returns lane old new [] = new ≡ old
Returns lane old new (first ∷ others) =
    (mid : LinkState _ _) × TakesBack old mid first (lane first).faults × Returns lane mid new others

abbrev pub lanes_of : {L : Type 0} → List (Listening L) → List L
lanes_of listening = map (λ one. one.lane) listening

abbrev pub places_of : {L : Type 0} → List (Listening L) → List HostPort
places_of listening = map (λ one. one.at) listening

-- so many new listeners in place of the lanes that were held, which are given back
pub record ListensOn {L X : Type 0} (lane : L → LaneState) (stripes : ℕ) (old : World L X)
    (places : List HostPort) (new : World L X) : Type 0 where
  pub listening : List (Listening L)
  pub mid : LinkState L X
  pub count : length listening ≡ stripes
  pub handed_out : HandsOut old.link mid listening
  -- no channel was opened on them yet
  pub unused : All (λ l. IsNewLane (lane l)) (lanes_of listening)
  pub returned : Returns lane mid new.link (held old.state)
  pub shown : places ≡ places_of listening
  pub state : new.state ≡ record old.state { side = Listeners (lanes_of listening) }

-- the link refused, or memory was refused, and the lanes that were held still wait
pub record ListensNot {L X : Type 0} (why : LinkError) (old new : World L X) : Type 0 where
  pub state : new.state ≡ old.state
  pub refused : NotHandedOut old.link new.link why

-- ---- what is handed out

-- the lanes that are held are among those that the link has handed out
abbrev pub HasHandedOut : {L X : Type 0} → World L X → Type 0
HasHandedOut world = length (held world.state) ≤ world.link.handed_out

-- as many more are handed out as are held more
abbrev pub KeepsCount : {L X : Type 0} → World L X → World L X → Type 0
KeepsCount old new =
    length (held new.state) + old.link.handed_out ≡ length (held old.state) + new.link.handed_out
