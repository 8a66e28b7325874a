-- The text of a command: how it is written, and which commands have one.
use Rattle.std.specs.Prelude.{◌≡◌, ℕ, ◌++◌, List, [], ◌∷◌}
use Rattle.gft_base.specs.Words.{carriage_return, line_feed}
use Rattle.gft_text.specs.Words.{Line, told}
use Rattle.gft_command.specs.Commands.{HasVerb, IsCommand, parameter_in}
use Rattle.gft_command.specs.Parameters.{FitsParameter, IsParameter, IsSendable, behind_verb}
use Rattle.gft_command.specs.Table.{Row, row_of}
use Rattle.gft_command.specs.Telnet.{doubled, past_signals}
use Rattle.gft_command.specs.declared.command.Command.{Command}

-- the one text of a row
abbrev pub row_text : Row → List ℕ
row_text r = r.verb ++ behind_verb r.value

-- the one text of a command
abbrev pub text_for : Command → List ℕ
text_for command = row_text (row_of command)

-- the one line that is written: each byte 255 twice, and CR and LF behind it
abbrev pub command_text : Command → List ℕ
command_text command = doubled (text_for command) ++ carriage_return ∷ line_feed ∷ []

-- the command has a line
abbrev pub FitsCommand : Command → Type 0
FitsCommand command = FitsParameter (row_of command).verb (row_of command).value

-- the text is the row's, has its verb and its value, and its line can be sent
pub record IsTextOf (text : List ℕ) (r : Row) : Type 0 where
  pub one : text ≡ row_text r
  pub verb : HasVerb text r.verb
  pub value : IsParameter (parameter_in text) r.value
  pub writable : IsSendable (doubled text)
  pub plain : past_signals (doubled text) ≡ doubled text

-- a stream that begins with these bytes tells one line first, and that line is the command
pub record IsSentAs (bytes : List ℕ) (command : Command) : Type 0 where
  pub line : List ℕ
  pub told_first : (later : List ℕ) → told (bytes ++ later) ≡ Line line ∷ told later
  pub read : IsCommand line command
