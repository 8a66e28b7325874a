-- The session table: from a world and one line to what the line brings and the world after it.
use Rattle.std.specs.Prelude.{◌≡◌, ◌⊎◌, ◌||◌, Bool, true, false, MatchBool}
use Rattle.std.specs.Prelude.{ℕ, List, [], ◌∷◌, length, None, Some, if◌then◌else◌}
use Rattle.gft_text.specs.declared.host_port.HostPort.{HostPort}
use Rattle.gft_command.specs.Words.{IsCommand, RefusesLine}
use Rattle.gft_command.specs.declared.command.Command.{Command}
use Rattle.gft_command.specs.declared.command.Command.TheVariants as commands
use Rattle.gft_command.specs.declared.error.CommandError.{CommandError}
use Rattle.gft_reply_kind.specs.declared.ReplyKind.TheVariants as kinds
use Rattle.gft_session.specs.declared.settings.Login.TheVariants as logins
use Rattle.gft_library.specs.Words.{Removes, Sizes}
use Rattle.gft_session.specs.Asking.{AsksLibrary}
use Rattle.gft_session.specs.Brought.{Brought}
use Rattle.gft_session.specs.Receiving.{AnswersRetrieve, AnswersStore}
use Rattle.gft_session.specs.Saying.{AnswersListen, IsPassive, IsStriped, Says, SaysAndReturns}
use Rattle.gft_session.specs.Saying.{after_mode, after_pass, after_type, folder_reply, mode_reply}
use Rattle.gft_session.specs.Saying.{pass_reply, protection_reply, structure_reply, type_reply}
use Rattle.gft_session.specs.Settings.{Around, State, Targets, World, is_in, with_options, without_list}

-- the settings with another side of the data connections
abbrev pub with_targets : {L : Type 0} → State L → List HostPort → State L
with_targets state places = record state { side = Targets places }

-- one row for each command
abbrev pub Row : {L D X : Type 0} → Around L D → Command → World L X → Brought → World L X
    → Type 0
Row around (commands.User _) old brought new =
    Says kinds.PasswordPlease (record old.state { login = logins.Named }) old brought new
Row around (commands.Pass _) old brought new =
    Says (pass_reply old.state.login) (record old.state { login = after_pass old.state.login })
    old brought new
Row around commands.Quit old brought new = Says kinds.Goodbye old.state old brought new
Row around commands.Noop old brought new = Says kinds.Done old.state old brought new
Row around commands.Feat old brought new = Says kinds.Features old.state old brought new
Row around (commands.SetType letter) old brought new =
    Says (type_reply letter) (record old.state { transfer_type = after_type letter old.state.transfer_type })
    old brought new
Row around (commands.SetMode letter) old brought new =
    Says (mode_reply letter) (record old.state { mode = after_mode letter old.state.mode }) old brought new
Row around (commands.SetStru letter) old brought new =
    Says (structure_reply letter) old.state old brought new
Row around (commands.Dcau letter) old brought new =
    Says (protection_reply letter) old.state old brought new
Row around (commands.Sbuf _) old brought new = Says kinds.BufferNoted old.state old brought new
Row around (commands.Allo _) old brought new = Says kinds.AlloNotNeeded old.state old brought new
Row around (commands.Opts options) old brought new =
    Says kinds.OptionsSet (with_options old.state options) old brought new
Row around commands.Pwd old brought new = Says kinds.OnlyFolder old.state old brought new
Row around (commands.Cwd path) old brought new = Says (folder_reply path) old.state old brought new
Row around commands.Pasv old brought new = AnswersListen around.lane 1 IsPassive old brought new
Row around commands.Spas old brought new = AnswersListen around.lane around.stripes IsStriped old brought new
Row around (commands.Port at) old brought new =
    SaysAndReturns around.lane (kinds.TargetsSet 1) (with_targets old.state (at ∷ [])) old brought new
Row around (commands.Spor places) old brought new =
    SaysAndReturns around.lane (kinds.TargetsSet (length places)) (with_targets old.state places)
    old brought new
Row around (commands.Rest list) old brought new =
    Says kinds.RestNoted (record old.state { rest = list.ranges }) old brought new
Row around (commands.Stor path) old brought new =
    AnswersStore around (record { path = path; part = None }) old brought new
Row around (commands.Esto esto) old brought new =
    AnswersStore around (record { path = esto.path; part = Some esto.offset }) old brought new
Row around (commands.Retr path) old brought new = AnswersRetrieve path false old brought new
Row around (commands.Eret eret) old brought new = AnswersRetrieve eret.path true old brought new
Row around (commands.Size path) old brought new = AsksLibrary Sizes path brought × (new ≡ old)
Row around (commands.Dele path) old brought new = AsksLibrary Removes path brought × (new ≡ old)
Row around commands.Abor old brought new = Says kinds.NoTransfer old.state old brought new

-- the commands that need no login
abbrev pub is_free : Command → Bool
is_free (commands.User _) = true
is_free (commands.Pass _) = true
is_free commands.Quit = true
is_free commands.Noop = true
is_free commands.Feat = true
is_free _ = false

-- the commands that drop the kept REST list, whatever the answer
abbrev pub is_transfer : Command → Bool
is_transfer (commands.Stor _) = true
is_transfer (commands.Esto _) = true
is_transfer (commands.Retr _) = true
is_transfer (commands.Eret _) = true
is_transfer _ = false

abbrev pub dropped_by : {L : Type 0} → Command → State L → State L
dropped_by command state = if is_transfer command then without_list state else state

-- the login comes first
abbrev pub AnswersCommand : {L D X : Type 0} → Around L D → Command → World L X → Brought
    → World L X → Type 0
AnswersCommand around command old brought new =
    MatchBool (is_free command || is_in old.state.login)
    (Row around command old brought new)
    (Says kinds.LogInFirst (dropped_by command old.state) old brought new)

-- the line is a command, and is answered
pub record Reads {L D X : Type 0} (around : Around L D) (line : List ℕ) (old : World L X)
    (brought : Brought) (new : World L X) : Type 0 where
  pub command : Command
  pub reads : IsCommand line command
  pub answers : AnswersCommand around command old brought new

-- the line is refused, and changes nothing; QUIT never is
pub record Refuses {L X : Type 0} (line : List ℕ) (old : World L X) (brought : Brought)
    (new : World L X) : Type 0 where
  pub why : CommandError
  pub refused : RefusesLine line why
  pub not_quit : ¬ IsCommand line commands.Quit
  pub says : Says (kinds.Unread why) old.state old brought new

-- the reading comes before the login
abbrev pub AnswersLine : {L D X : Type 0} → Around L D → List ℕ → World L X → Brought → World L X
    → Type 0
AnswersLine around line old brought new = Reads around line old brought new ⊎ Refuses line old brought new
