-- Lines that store or send: what they name, and for what they are refused before anybody is asked.
use Rattle.std.specs.Prelude.{◌≡◌, ◌==◌, ℕ, Bool, true, false, not, ◌&&◌, if◌then◌else◌, List, [], ◌∷◌}
use Rattle.std.specs.Prelude.{length}
use Rattle.std.specs.Prelude.{Option, None, Some, is_none, is_some, unwrap_or}
use Rattle.gft_range.specs.declared.range.Range.{Range}
use Rattle.gft_text.specs.declared.host_port.HostPort.{HostPort}
use Rattle.gft_text.specs.Words.{fault_of, without_slash}
use Rattle.gft_book.specs.declared.usage.How.{How}
use Rattle.gft_book.specs.declared.usage.How.TheVariants.{Esto, Fresh, Resume}
use Rattle.gft_command.specs.declared.command.Command.{Command}
use Rattle.gft_command.specs.declared.command.Command.TheVariants as commands
use Rattle.gft_reply_kind.specs.declared.ReplyKind.{ReplyKind}
use Rattle.gft_reply_kind.specs.declared.ReplyKind.TheVariants as kinds
use Rattle.gft_session.specs.declared.settings.Mode.{Mode}
use Rattle.gft_session.specs.declared.settings.Mode.TheVariants as modes
use Rattle.gft_session.specs.declared.settings.TransferType.{TransferType}
use Rattle.gft_session.specs.declared.settings.TransferType.TheVariants as types
use Rattle.gft_session.specs.Settings.{Side, State, Targets, lanes_in}

-- the path writes a name, with or without one leading slash
abbrev pub is_name : List ℕ → Bool
is_name path = is_none (fault_of (without_slash path))

abbrev pub is_empty : {A : Type 0} → List A → Bool
is_empty items = length items == 0

-- STOR, or ESTO with the offset of its part
pub record Job : Type 0 where
  pub path : List ℕ
  pub part : Option ℕ

-- what is added to the offsets of blocks
abbrev pub shift_of : Option ℕ → ℕ
shift_of part = unwrap_or part 0

abbrev pub is_binary : TransferType → Mode → Bool
is_binary types.Image modes.Extended = true
is_binary _ _ = false

abbrev pub targets_in : {L : Type 0} → Side L → List HostPort
targets_in (Targets places) = places
targets_in _ = []

-- the first of these that holds refuses a line that begins a transfer; the last is said where nothing stands
-- ready on the session's side
abbrev pub refusal : {L : Type 0} → State L → List ℕ → Bool → Bool → ReplyKind → Option ReplyKind
refusal state path is_part is_ready last =
    if not (is_binary state.transfer_type state.mode) then Some kinds.SetTypeAndMode
    else if is_part && not (is_empty state.rest) then Some kinds.RestElsewhere
    else if not (is_name path) then Some kinds.BadName
    else if not is_ready then Some last
    else None

abbrev pub store_refusal : {L : Type 0} → State L → Job → Option ReplyKind
store_refusal state job =
    refusal state job.path (is_some job.part) (not (is_empty (lanes_in state.side))) kinds.ListenFirst

abbrev pub retrieve_refusal : {L : Type 0} → State L → List ℕ → Bool → Option ReplyKind
retrieve_refusal state path is_part =
    refusal state path is_part (not (is_empty (targets_in state.side))) kinds.TargetsFirst

-- a kept list that isn't empty restarts a STOR
abbrev pub IsHow : Option ℕ → List Range → How → Type 0
IsHow (Some offset) rest Esto = Unit {0}
IsHow None [] Fresh = Unit {0}
IsHow None (first ∷ rest) (Resume list) = list.ranges ≡ first ∷ rest
IsHow _ _ _ = ⊥

-- what a command stores
abbrev pub stored_by : Command → Option Job
stored_by (commands.Stor path) = Some (record { path = path; part = None })
stored_by (commands.Esto esto) = Some (record { path = esto.path; part = Some esto.offset })
stored_by _ = None
