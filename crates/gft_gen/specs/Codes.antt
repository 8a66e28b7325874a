-- The codes of the replies that tell how a transfer ended (RFC 959, section 4.2), and why one didn't begin.
use Rattle.std.specs.Prelude.{ℕ}
use Rattle.gft_pass.specs.declared.Cause.{Cause}
use Rattle.gft_pass.specs.declared.Cause.TheVariants.{DriveFailed, LinkFailed, Memory, RangesFull}
use Rattle.gft_book.specs.declared.BeginError.{BeginError}
use Rattle.gft_book.specs.declared.BeginError.TheVariants as refusal

abbrev pub code_of_cause : Cause → ℕ
code_of_cause LinkFailed = 425
code_of_cause DriveFailed = 451
code_of_cause (RangesFull kept) = 452
code_of_cause Memory = 455
code_of_cause other = 426

abbrev pub code_of_refusal : BeginError → ℕ
code_of_refusal (refusal.Busy found) = 450
code_of_refusal (refusal.Damaged damage) = 451
code_of_refusal refusal.DriveFailed = 451
code_of_refusal refusal.OutOfMemory = 455
code_of_refusal (refusal.NotInJournal missing) = 554
code_of_refusal other = 550
