-- The table of verbs: a row for each command, its verb and what it carries, by the form of its parameter.
use Rattle.std.specs.Prelude.{◌≡◌, ℕ, ◌<◌, ◌&&◌, Bool, IfSome, List, codes, length, nat_le, slice_get}
use Rattle.std.specs.Borrow.{Bor}
use Rattle.std.specs.List.{All, list_all}
use Rattle.gft_text.specs.Words.{folded}
use Rattle.gft_command.specs.Parameters.{Parameter, Nothing, Text, Letter, Number, LeadingNumber}
use Rattle.gft_command.specs.Parameters.{Options, Address, Targets, Ranges, Part, Place}
use Rattle.gft_command.specs.declared.command.Command.{Command}
use Rattle.gft_command.specs.declared.command.Command.TheVariants as commands

-- a verb, in capitals, and the value of its parameter
pub record Row : Type 0 where
  pub verb : List ℕ
  pub value : Parameter

abbrev pub row : List ℕ → Parameter → Row
row verb value = record { verb = verb; value = value }

-- what each command is
abbrev pub row_of : Command → Row
row_of (commands.User words) = row (codes "USER") (Text words)
row_of (commands.Pass words) = row (codes "PASS") (Text words)
row_of commands.Quit = row (codes "QUIT") Nothing
row_of commands.Noop = row (codes "NOOP") Nothing
row_of commands.Feat = row (codes "FEAT") Nothing
row_of commands.Pwd = row (codes "PWD") Nothing
row_of (commands.Cwd words) = row (codes "CWD") (Text words)
row_of (commands.SetType letter) = row (codes "TYPE") (Letter letter)
row_of (commands.SetMode letter) = row (codes "MODE") (Letter letter)
row_of (commands.SetStru letter) = row (codes "STRU") (Letter letter)
row_of (commands.Dcau letter) = row (codes "DCAU") (Letter letter)
row_of (commands.Sbuf number) = row (codes "SBUF") (Number number)
row_of (commands.Allo number) = row (codes "ALLO") (LeadingNumber number)
row_of (commands.Opts options) = row (codes "OPTS") (Options options)
row_of commands.Pasv = row (codes "PASV") Nothing
row_of commands.Spas = row (codes "SPAS") Nothing
row_of (commands.Port at) = row (codes "PORT") (Address at)
row_of (commands.Spor targets) = row (codes "SPOR") (Targets targets)
row_of (commands.Rest set) = row (codes "REST") (Ranges set.ranges)
row_of (commands.Stor words) = row (codes "STOR") (Text words)
row_of (commands.Retr words) = row (codes "RETR") (Text words)
row_of (commands.Eret eret) = row (codes "ERET") (Part eret)
row_of (commands.Esto esto) = row (codes "ESTO") (Place esto)
row_of (commands.Size words) = row (codes "SIZE") (Text words)
row_of (commands.Dele words) = row (codes "DELE") (Text words)
row_of commands.Abor = row (codes "ABOR") Nothing

abbrev pub verb_of : Command → List ℕ
verb_of command = (row_of command).verb

abbrev pub parameter_of : Command → Parameter
parameter_of command = (row_of command).value

-- a word that can stand in the table: capitals, at most four
abbrev pub is_verb : List ℕ → Bool
is_verb verb = nat_le (length verb) 4 && list_all (λ b. nat_le 65 b && nat_le b 90) verb

-- the word at this place is the verb, in any case of its letters
pub record IsPlaceOf (words : List (Bor (List ℕ))) (verb : List ℕ) (place : ℕ) : Type 0 where
  pub within : place < length words
  pub same : IfSome (slice_get words place) (λ word. folded word.now ≡ folded verb)

-- none of the words is the verb
pub record AreOthers (words : List (Bor (List ℕ))) (verb : List ℕ) : Type 0 where
  pub differ : All (λ word. ¬ (folded word.now ≡ folded verb)) words
