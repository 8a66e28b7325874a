-- What `make` promises.
use Rattle.std.specs.Prelude.{ℕ, Option, List}
use Rattle.std.specs.Io.KnownBytes.{Appends}
use Rattle.gft_base.specs.Words.{Rose}
use Rattle.gft_book.specs.Words.{SettledFile}
use Rattle.gft_gen.specs.Attempts.{Tells}
use Rattle.gft_gen.specs.Summary.{summary_text}
use Rattle.gft_gen.specs.declared.error.MakeError.{MakeError}
use Rattle.gft_gen.specs.declared.error.MakeError.TheVariants.{OutFault, OutOfMemory}
use Rattle.gft_gen.specs.declared.summary.Answers.{Answers}

-- the seven lines were put; the third code is 226 exactly where there is a finished file
pub record PutsSummary (seed size : ℕ) (finished : Option SettledFile) (before after : Option (List ℕ))
    : Type 0 where
  pub answers : Answers
  pub put : Appends before after (summary_text (record { seed = seed; size = size }) answers)
  pub tells : Tells size answers finished

-- the sink's count of faults rose; or memory was refused, and nothing was put
abbrev pub RefusesMake : MakeError → (same : Type 0) → ℕ → ℕ → Type 0
RefusesMake OutFault same faults risen = Rose faults risen
RefusesMake OutOfMemory same faults risen = same
