-- Whether a line was QUIT.
use Rattle.std.proofs.Common.{◌≡◌, ◌↔◌, Bool, true, false, not, MatchBool, List, ℕ, Result, Ok, Err, IfOk, refl, subst, sym, ap}
use Rattle.gft_command.specs.Words.{IsCommand}
use Rattle.gft_command.specs.declared.command.Command.{Command}
use Rattle.gft_command.specs.declared.command.Command.TheVariants as commands
use Rattle.gft_command.specs.declared.error.CommandError.{CommandError}
use Rattle.gft_session.specs.declared.session_end.Stopped.{Stopped}
use Rattle.gft_session.specs.Conversation.{IsQuit}
use Rattle.std.specs.Result.{result_unwrap_or}

-- a session goes on exactly behind a line that was no QUIT
pub quit_read : (quits : Bool) (line : List ℕ) (command : Command) → (quits ≡ true ↔ (command ≡ commands.Quit)) → IsCommand line command →
    (IsQuit line → (let read : Result Command CommandError = Ok command in read ≡ Ok commands.Quit)) → MatchBool (not quits) (¬ IsQuit line) (IsQuit line)
quit_read true line command is reads one = subst (λ (one : Command). IsCommand line one) (is.0 refl) reads
quit_read false line command is reads one = λ quit.
    let same : command ≡ commands.Quit = ap (λ (r : Result Command CommandError). result_unwrap_or r command) (one quit) in
    absurd (let h : false ≡ true = is.1 same in cc)

-- and that is told
pub quit_told : (result : Result Bool Stopped) (goes_on : Bool) (line : List ℕ) → IfOk result (λ told. told ≡ goes_on) → MatchBool goes_on (¬ IsQuit line) (IsQuit line) → IfOk result (λ told. MatchBool told (¬ IsQuit line) (IsQuit line))
quit_told (Ok told) goes_on line same is = subst (λ (b : Bool). MatchBool b (¬ IsQuit line) (IsQuit line)) (sym same) is
quit_told (Err why) goes_on line same is = tt
