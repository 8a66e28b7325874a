-- A whole session: the lines that were heard, what each brought, and how it ended. Lists of turns and of
-- inputs are newest first.
use Rattle.std.specs.Prelude.{◌≡◌, ℕ, ◌+◌, ◌-◌, ◌^◌, ◌≤◌, ◌==◌, ◌⊎◌, min, if◌then◌else◌}
use Rattle.std.specs.Prelude.{Bool, MatchBool, List, [], ◌∷◌, ◌++◌, Option, Result, IfOk, Some}
use Rattle.std.specs.Io.KnownBytes.{Appends}
use Rattle.gft_base.specs.Words.{Rose}
use Rattle.gft_drive.specs.Words.{IsPartOf}
use Rattle.gft_text.specs.Words.{Held, Line, Told, told}
use Rattle.gft_text.specs.Words.{lines_to_come}
use Rattle.gft_reply.specs.declared.reply.Reply.{Reply}
use Rattle.gft_reply.specs.Words.{reply_text}
use Rattle.gft_command.specs.Words.{IsCommand}
use Rattle.gft_command.specs.declared.command.Command.{Command}
use Rattle.gft_command.specs.declared.command.Command.TheVariants as commands
use Rattle.gft_library.specs.Words.{NamedWord}
use Rattle.gft_outside.specs.Words.{ControlInput, ControlState, Hears, LinkState, said}
use Rattle.gft_session.specs.declared.config.Config.{Config}
use Rattle.gft_reply_kind.specs.declared.ReplyKind.TheVariants as kinds
use Rattle.gft_session.specs.declared.session_end.SessionEnd.{SessionEnd}
use Rattle.gft_session.specs.declared.session_end.SessionEnd.TheVariants as ends
use Rattle.gft_session.specs.declared.session_end.Stopped.{Stopped}
use Rattle.gft_session.specs.declared.session_end.Stopped.TheVariants as stops
use Rattle.gft_session.specs.Hearing.{IsPatient, IsReason, overlong_at, taken_at}
use Rattle.gft_session.specs.Listeners.{Returns}
use Rattle.gft_reply_kind.specs.Words.{reply_of}
use Rattle.gft_session.specs.Brought.{Brought, Output, text_of_all}
use Rattle.gft_session.specs.Jobs.{Job, stored_by}
use Rattle.gft_session.specs.Receiving.{AreHonest}
use Rattle.gft_session.specs.Settings.{Around, State, World, held, start_world}
use Rattle.gft_session.specs.Steps.{AreBefore, Gives, Tallies, list_of}
use Rattle.gft_session.specs.Table.{AnswersLine}
use Rattle.gft_opts.specs.declared.TheConstants.{MAX_TARGETS}

-- the bounds are in range
pub record IsConfig (config : Config) : Type 0 where
  pub some : 1 ≤ config.stripes
  pub few : config.stripes ≤ MAX_TARGETS
  pub marker : 1 ≤ config.marker_bytes
  pub idle : 1 ≤ config.idle

-- ---- turns

-- a line, what was heard of the control for it, and what it brought
pub record Turn : Type 0 where
  pub line : List ℕ
  pub inputs : List ControlInput
  pub brought : Brought

abbrev pub inputs_of : List Turn → List ControlInput
inputs_of [] = []
inputs_of (turn ∷ older) = turn.inputs ++ inputs_of older

abbrev pub lines_of : List Turn → List Told
lines_of [] = []
lines_of (turn ∷ older) = lines_of older ++ Line turn.line ∷ []

-- the bytes of the replies
abbrev pub replies_in : List Turn → List ℕ
replies_in [] = []
replies_in (turn ∷ older) = replies_in older ++ text_of_all turn.brought.replies

-- the answers of the library that they give, the newest first
abbrev pub answers_in : List Turn → List NamedWord
answers_in [] = []
answers_in (turn ∷ older) = list_of turn.brought.answer ++ answers_in older

-- the table leads from the world at the start to the one now, line by line
abbrev pub Leads : {L D X : Type 0} → Around L D → World L X → List Turn → World L X → Type 0
Leads around start [] now = now ≡ start
Leads around start (turn ∷ older) now =
    (mid : World _ _) × Leads around start older mid × AnswersLine around turn.line mid turn.brought now

abbrev pub ArePatient : ℕ → List Turn → Type 0
ArePatient idle [] = Unit {0}
ArePatient idle (turn ∷ older) = IsPatient idle turn.inputs × ArePatient idle older

abbrev pub IsQuit : List ℕ → Type 0
IsQuit line = IsCommand line commands.Quit

abbrev pub HasNoQuit : List Turn → Type 0
HasNoQuit [] = Unit {0}
HasNoQuit (turn ∷ older) = (¬ IsQuit turn.line) × HasNoQuit older

-- the last line was QUIT, and no other
abbrev pub EndsByQuit : List Turn → Type 0
EndsByQuit [] = ⊥
EndsByQuit (turn ∷ older) = IsQuit turn.line × HasNoQuit older

abbrev pub before_last : List Turn → List Turn
before_last [] = []
before_last (turn ∷ older) = older

-- ---- whose condition it is

-- the lanes that wait are honest for the file that the command stores, if its name has a source
abbrev pub IsHonestFor : {L D : Type 0} → Around L D → State L → Command → Type 0
IsHonestFor around state command = (job : Job) → stored_by command ≡ Some job → AreHonest around job state

-- whatever conversation the table leads through, so are those that wait where a line stores
abbrev pub IsHonestWith : {L D X : Type 0} → Around L D → World L X → Type 0
IsHonestWith around start =
    (turns : List Turn) (now : World _ _) (line : List ℕ) (command : Command) → Leads around start turns now
    → IsCommand line command → IsHonestFor around now.state command

-- ---- counts

-- how many of the replies are of code 425
abbrev pub refusals : List Reply → ℕ
refusals [] = 0
refusals (reply ∷ replies) = (if reply.code == 425 then 1 else 0) + refusals replies

abbrev pub refusals_in : List Turn → ℕ
refusals_in [] = 0
refusals_in (turn ∷ older) = refusals turn.brought.replies + refusals_in older

-- the count rose by so many, or stands at its type's end
abbrev pub RoseBy : ℕ → ℕ → ℕ → Type 0
RoseBy n before now = min (before + n) (2 ^ 64 - 1) ≤ now

-- ---- what is put

abbrev pub greeting : List ℕ
greeting = reply_text (reply_of kinds.Greeting)

-- the line that closes a session
abbrev pub closing : SessionEnd → List ℕ
closing ends.IdleControl = reply_text (reply_of kinds.Idle)
closing ends.LineTooLong = reply_text (reply_of kinds.TooLong)
closing _ = []

-- all that is to be put: the greeting, the replies to each line in order, the closing line
abbrev pub due : SessionEnd → List Turn → List ℕ
due end turns = greeting ++ (replies_in turns ++ closing end)

-- without the replies to the last line
abbrev pub due_before_last : List Turn → List ℕ
due_before_last [] = []
due_before_last (turn ∷ older) = greeting ++ replies_in older

-- a front of what is to be put, which has the replies to every line but the last
pub record IsCut (end : SessionEnd) (turns : List Turn) (bytes : List ℕ) : Type 0 where
  pub front : IsPartOf bytes (due end turns)
  pub has : IsPartOf (due_before_last turns) bytes

-- ---- what a tally takes

-- the last line's last reply was not put
abbrev pub LacksReply : List Turn → List ℕ → Type 0
LacksReply [] bytes = bytes ≡ []
LacksReply (turn ∷ older) bytes =
    (part : List ℕ) × (bytes ≡ (greeting ++ replies_in older) ++ part) × AreBefore part turn.brought.replies

-- the answers of all replies that were put; and one more only where a put failed
abbrev pub AreTaken : SessionEnd → List Turn → List ℕ → List NamedWord → Type 0
AreTaken ends.OutFault turns bytes answers =
    (answers ≡ answers_in turns) ⊎ (answers ≡ answers_in (before_last turns))
AreTaken ends.OutOfMemory turns bytes answers =
    ((bytes ≡ greeting ++ replies_in turns) × (answers ≡ answers_in turns))
    ⊎ (LacksReply turns bytes × (answers ≡ answers_in (before_last turns)))
AreTaken _ turns bytes answers = answers ≡ answers_in turns

-- ---- ends

-- a session that ended so was cut off: a put failed, or memory was refused
abbrev pub IsCutOff : SessionEnd → Type 0
IsCutOff ends.OutFault = Unit {0}
IsCutOff ends.OutOfMemory = Unit {0}
IsCutOff _ = ⊥

-- why a session ended: by its lines, and by what was heard of the control behind the last of them
abbrev pub IsCauseOf : SessionEnd → ℕ → List Turn → List ControlInput → ControlState → Type 0
IsCauseOf ends.Quit idle turns behind now = EndsByQuit turns × (behind ≡ [])
IsCauseOf ends.OutFault idle turns behind now = HasNoQuit (before_last turns) × (behind ≡ [])
IsCauseOf ends.OutOfMemory idle turns behind now = HasNoQuit (before_last turns) × IsPatient idle behind
IsCauseOf end idle turns behind now = HasNoQuit turns × IsReason end idle behind now

-- a fault's end comes where its count rose, and no other count did
abbrev pub HasFault : SessionEnd → ℕ → ℕ → ℕ → ℕ → Type 0
HasFault ends.ControlFault heard_before heard_now put_before put_now =
    Rose heard_before heard_now × (put_now ≡ put_before)
HasFault ends.OutFault heard_before heard_now put_before put_now =
    (heard_now ≡ heard_before) × Rose put_before put_now
HasFault _ heard_before heard_now put_before put_now =
    (heard_now ≡ heard_before) × (put_now ≡ put_before)

-- the lines of a session and their replies, from its start to its end
pub record Converses {L D X : Type 0} (around : Around L D) (idle : ℕ) (result : SessionEnd)
    (start last : World L X) (was now : ControlState) (old new : Output) : Type 0 where
  pub turns : List Turn
  -- what was heard behind the last line
  pub behind : List ControlInput
  pub bytes : List ℕ
  -- how it would have ended, had the last put not failed
  pub end : SessionEnd
  pub heard : Hears (behind ++ inputs_of turns) was now
  -- what was heard tells the lines of the turns, and no other line
  pub lines : told (said (taken_at end behind ++ inputs_of turns)) ≡ lines_of turns ++ overlong_at end
  pub patient : ArePatient idle turns
  pub leads : Leads around start turns last
  -- the 425 lines are at most as many as the link's count rose by
  pub refused : RoseBy (refusals_in turns) start.link.faults last.link.faults
  pub cause : IsCauseOf end idle turns behind now
  pub put : Appends old.put new.put bytes
  -- all that is due was put, or the session was cut off
  pub whole : ¬ IsCutOff result → (end ≡ result) × (bytes ≡ due result turns)
  pub cut : IsCutOff result → IsCut end turns bytes
  -- what the tally took
  pub answers : List NamedWord
  pub tallied : Tallies old.taken new.taken answers
  pub taken : AreTaken result turns bytes answers

-- a whole session; the lanes that are left at its end are given back
pub record IsSession {L D X : Type 0} (around : Around L D) (idle : ℕ) (result : SessionEnd)
    (old_link new_link : LinkState L X) (was now : ControlState) (old new : Output) : Type 0 where
  pub last : World L X
  pub talk : Converses around idle result (start_world old_link) last was now old new
  pub returned : Returns around.lane last.link new_link (held last.state)
  -- whatever was handed out was given back
  pub back : new_link.handed_out ≡ old_link.handed_out

-- ---- on the way

-- a session that goes on: every line heard was answered, and the reader stands behind the last
pub record SoFar {L D X : Type 0} (around : Around L D) (idle : ℕ) (start mid : World L X)
    (was now : ControlState) (reader : Held) (old new : Output) : Type 0 where
  pub turns : List Turn
  pub heard : Hears (inputs_of turns) was now
  pub lines : (later : List ℕ) →
      told (said (inputs_of turns) ++ later) ≡ lines_of turns ++ lines_to_come reader later
  pub settled : lines_to_come reader [] ≡ []
  pub patient : ArePatient idle turns
  pub leads : Leads around start turns mid
  pub put : Appends old.put new.put (greeting ++ replies_in turns)
  pub tallied : Tallies old.taken new.taken (answers_in turns)
  pub no_quit : HasNoQuit turns

-- one line was answered, which tells whether the session goes on
pub record AnswersOne {L D X : Type 0} (around : Around L D) (line : List ℕ) (old now : World L X)
    (result : Result Bool Stopped) (before after : Output) : Type 0 where
  pub gives : Gives (λ brought. AnswersLine around line old brought now) result before after
  pub goes_on : IfOk result (λ goes_on. MatchBool goes_on (¬ IsQuit line) (IsQuit line))

abbrev pub end_of : Stopped → SessionEnd
end_of stops.OutFault = ends.OutFault
end_of stops.OutOfMemory = ends.OutOfMemory

-- the ends that a line closes
abbrev pub HasClosing : SessionEnd → Type 0
HasClosing ends.IdleControl = Unit {0}
HasClosing ends.LineTooLong = Unit {0}
HasClosing _ = ⊥

-- the closing line was put, or where the put failed a part of it
pub record Closes (end result : SessionEnd) (old new : Option (List ℕ)) : Type 0 where
  pub part : List ℕ
  pub put : Appends old new part
  pub is_part : IsPartOf part (closing end)
  pub becomes : ((result ≡ end) × (part ≡ closing end)) ⊎ (IsCutOff result × HasClosing end)
  pub none : result ≡ ends.OutOfMemory → part ≡ []

-- the sink's count at the end: it rose where the put failed, and stays else
abbrev pub HasClosed : SessionEnd → SessionEnd → ℕ → ℕ → Type 0
HasClosed ends.OutFault result before now = now ≡ before
HasClosed end ends.OutFault before now = Rose before now
HasClosed end _ before now = now ≡ before
