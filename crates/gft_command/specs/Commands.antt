-- Which lines are which command (RFC 959, sections 4.1 and 5.3; RFC 3659, section 4; GFD.20).
use Rattle.std.specs.Prelude.{◌≡◌, ◌<◌, ◌==◌, ◌⊎◌, ℕ, List, [], length}
use Rattle.std.specs.List.{before_first, after_first}
use Rattle.gft_base.specs.Words.{Lacks, space}
use Rattle.gft_text.specs.Words.{folded}
use Rattle.gft_command.specs.Parameters.{IsParameter, TakesMemory}
use Rattle.gft_command.specs.Table.{parameter_of, verb_of}
use Rattle.gft_command.specs.Telnet.{past_signals, telnet_escape, telnet_text}
use Rattle.gft_command.specs.declared.command.Command.{Command}
use Rattle.gft_command.specs.declared.command.Command.TheVariants as commands
use Rattle.gft_command.specs.declared.error.CommandError.{CommandError}
use Rattle.gft_command.specs.declared.error.CommandError.TheVariants.{UnknownVerb, MissingParameter}
use Rattle.gft_command.specs.declared.error.CommandError.TheVariants.{BadParameter, OutOfMemory}

-- the bytes before the first space, and those behind it
abbrev pub verb_in : List ℕ → List ℕ
verb_in text = before_first (λ b. b == space) text

abbrev pub parameter_in : List ℕ → List ℕ
parameter_in text = after_first (λ b. b == space) text

-- the text's verb is this one, in any case of its letters
abbrev pub HasVerb : List ℕ → List ℕ → Type 0
HasVerb text verb = folded verb ≡ folded (verb_in text)

-- the word is the command's verb, in any case of its letters
abbrev pub IsVerbOf : List ℕ → Command → Type 0
IsVerbOf word command = folded (verb_of command) ≡ folded word

-- a command of the same verb that carries what the parameter says
abbrev pub IsRead : Command → List ℕ → Command → Type 0
IsRead blank parameter command =
    (verb_of command ≡ verb_of blank) × IsParameter parameter (parameter_of command)

-- the text says the command: its verb, in any case of its letters, and what it carries
pub record SaysCommand (text : List ℕ) (command : Command) : Type 0 where
  pub verb : HasVerb text (verb_of command)
  pub value : IsParameter (parameter_in text) (parameter_of command)

-- the line is the command, once Telnet's bytes are read
abbrev pub IsCommand : List ℕ → Command → Type 0
IsCommand line command = SaysCommand (telnet_text line) command

-- the text's verb is that of a command
abbrev pub HasKnownVerb : List ℕ → Type 0
HasKnownVerb text = (command : Command) × HasVerb text (verb_of command)

-- the text has the verb of a command, and says none
pub record SaysNone (text : List ℕ) : Type 0 where
  pub known : HasKnownVerb text
  pub none : (command : Command) → ¬ SaysCommand text command

-- a command of the text's verb takes memory, and the text could say one
pub record CouldTakeMemory (text : List ℕ) : Type 0 where
  pub command : Command
  pub verb : HasVerb text (verb_of command)
  pub could : TakesMemory (parameter_in text) (parameter_of command)

-- which refusal a text gets: its verb is unknown; else it says no command, as a parameter is missing or bad
abbrev pub RefusesText : List ℕ → CommandError → Type 0
RefusesText text UnknownVerb = ¬ HasKnownVerb text
RefusesText text MissingParameter = SaysNone text × (parameter_in text ≡ [])
RefusesText text BadParameter = SaysNone text × (0 < length (parameter_in text))
RefusesText text OutOfMemory = CouldTakeMemory text

-- the same of a line; a line in which a byte 255 is left behind the signals is copied
abbrev pub RefusesLine : List ℕ → CommandError → Type 0
RefusesLine line OutOfMemory =
    RefusesText (telnet_text line) OutOfMemory ⊎ ¬ Lacks telnet_escape (past_signals line)
RefusesLine line e = RefusesText (telnet_text line) e

-- the same command; lists of ranges name the same offsets
abbrev pub IsSame : Command → Command → Type 0
IsSame (commands.Rest a) (commands.Rest b) = a.ranges ≡ b.ranges
IsSame a b = a ≡ b
