-- How an attempt of a generated transfer ends, and what the three of them are told as.
use Rattle.std.specs.Prelude.{◌≡◌, ◌≢◌, ◌↔◌, ℕ, true, Option, IsSome, IsSomeAnd, MatchResult}
use Rattle.gft_book.specs.declared.transfer.Stage.TheVariants.{Rest}
use Rattle.gft_book.specs.Words.{SettledFile}
use Rattle.gft_gen.specs.declared.summary.Answers.{Answers}
use Rattle.gft_gen.specs.declared.transfer.Attempt.{Attempt}

-- the code of the reply that tells a finished transfer
abbrev pub complete_code : ℕ
complete_code = 226

-- with a finished file, and its Book at rest; or with the code of another reply
abbrev pub HasEnded : Attempt → Type 0
HasEnded attempt = MatchResult attempt.end (λ file. attempt.book.stage ≡ Rest) (λ code. code ≢ complete_code)

-- the third answer is that of a finished transfer exactly where there is a finished file, and the file is told
-- as equal only where that has its size
pub record Tells (size : ℕ) (answers : Answers) (finished : Option SettledFile) : Type 0 where
  pub third : (answers.third ≡ complete_code) ↔ IsSome finished
  pub equal : answers.is_equal ≡ true → IsSomeAnd finished (λ file. file.len ≡ size)
