-- Rows of the table that ask nobody, or the link: one reply, and the world after it.
use Rattle.std.specs.Prelude.{◌≡◌, ℕ, ◌==◌, ◌⊎◌, Bool, false, if◌then◌else◌, List, [], ◌∷◌}
use Rattle.std.specs.declared.vec.Vec.{Vec}
use Rattle.std.specs.declared.alloc.Global.{Global}
use Rattle.gft_text.specs.declared.host_port.HostPort.{HostPort}
use Rattle.gft_outside.specs.Words.{LaneState}
use Rattle.gft_outside.specs.declared.link.LinkError.{LinkError}
use Rattle.gft_outside.specs.declared.link.LinkError.TheVariants as errors
use Rattle.gft_reply_kind.specs.declared.ReplyKind.{ReplyKind}
use Rattle.gft_reply_kind.specs.declared.ReplyKind.TheVariants as kinds
use Rattle.gft_session.specs.declared.settings.Login.{Login}
use Rattle.gft_session.specs.declared.settings.Login.TheVariants as logins
use Rattle.gft_session.specs.declared.settings.TransferType.{TransferType}
use Rattle.gft_session.specs.declared.settings.TransferType.TheVariants as types
use Rattle.gft_session.specs.declared.settings.Mode.{Mode}
use Rattle.gft_session.specs.declared.settings.Mode.TheVariants as modes
use Rattle.gft_session.specs.Brought.{Brought, alone}
use Rattle.gft_session.specs.Listeners.{ListensNot, ListensOn, Returns}
use Rattle.gft_session.specs.Settings.{State, World, held}

-- one reply, and the settings after it
pub record Says {L X : Type 0} (kind : ReplyKind) (after : State L) (old : World L X) (brought : Brought)
    (new : World L X) : Type 0 where
  pub reply : brought ≡ alone kind
  pub state : new.state ≡ after
  pub link : new.link ≡ old.link

-- the same, and the lanes that were held are given back
pub record SaysAndReturns {L X : Type 0} (lane : L → LaneState) (kind : ReplyKind) (after : State L)
    (old : World L X) (brought : Brought) (new : World L X) : Type 0 where
  pub reply : brought ≡ alone kind
  pub state : new.state ≡ after
  pub returned : Returns lane old.link new.link (held old.state)

-- ---- login, type, mode, structure, protection, folder

abbrev pub pass_reply : Login → ReplyKind
pass_reply logins.Named = kinds.LoggedIn
pass_reply _ = kinds.UserFirst

abbrev pub after_pass : Login → Login
after_pass logins.Named = logins.In
after_pass login = login

-- I and A
abbrev pub type_reply : ℕ → ReplyKind
type_reply letter =
    if letter == 73 then kinds.TypeImage else (if letter == 65 then kinds.TypeAscii else kinds.NoSuchType)

abbrev pub after_type : ℕ → TransferType → TransferType
after_type letter old = if letter == 73 then types.Image else (if letter == 65 then types.Ascii else old)

-- E and S
abbrev pub mode_reply : ℕ → ReplyKind
mode_reply letter =
    if letter == 69 then kinds.ModeExtended else (if letter == 83 then kinds.ModeStream else kinds.NoSuchMode)

abbrev pub after_mode : ℕ → Mode → Mode
after_mode letter old = if letter == 69 then modes.Extended else (if letter == 83 then modes.Stream else old)

-- F
abbrev pub structure_reply : ℕ → ReplyKind
structure_reply letter = if letter == 70 then kinds.StructureFile else kinds.NoSuchStructure

-- N
abbrev pub protection_reply : ℕ → ReplyKind
protection_reply letter = if letter == 78 then kinds.NoProtection else kinds.OnlyNoProtection

-- the path is /
abbrev pub is_root : List ℕ → Bool
is_root (first ∷ []) = first == 47
is_root _ = false

abbrev pub folder_reply : List ℕ → ReplyKind
folder_reply path = if is_root path then kinds.FolderIsRoot else kinds.NoSuchFolder

-- ---- PASV and SPAS

abbrev pub refused_reply : LinkError → ReplyKind
refused_reply errors.Failed = kinds.CannotListen
refused_reply errors.OutOfMemory = kinds.OutOfMemory

-- PASV names its one place, SPAS all of them
abbrev pub IsPassive : List HostPort → ReplyKind → Type 0
IsPassive places kind = (at : HostPort) × (places ≡ at ∷ []) × (kind ≡ kinds.Passive at)

abbrev pub IsStriped : List HostPort → ReplyKind → Type 0
IsStriped places kind = (text : Vec HostPort Global) × (text.items ≡ places) × (kind ≡ kinds.Striped text)

-- new listeners, whose places the reply names
pub record Listens {L X : Type 0} (lane : L → LaneState) (stripes : ℕ)
    (IsNamed : List HostPort → ReplyKind → Type 0) (old : World L X) (brought : Brought)
    (new : World L X) : Type 0 where
  pub places : List HostPort
  pub kind : ReplyKind
  pub listens : ListensOn lane stripes old places new
  pub named : IsNamed places kind
  pub reply : brought ≡ alone kind

-- no new listeners
pub record IsRefused {L X : Type 0} (old : World L X) (brought : Brought) (new : World L X) : Type 0 where
  pub why : LinkError
  pub same : ListensNot why old new
  pub reply : brought ≡ alone (refused_reply why)

abbrev pub AnswersListen : {L X : Type 0} → (L → LaneState) → ℕ → (List HostPort → ReplyKind → Type 0) →
    World L X → Brought → World L X → Type 0
AnswersListen lane stripes IsNamed old brought new =
    IsRefused old brought new ⊎ Listens lane stripes IsNamed old brought new
