-- No code of a cause or of a refusal is that of a finished transfer.
use Rattle.std.proofs.Common.{◌≢◌, arith}
use Rattle.gft_pass.specs.declared.Cause.{Cause}
use Rattle.gft_pass.specs.declared.Cause.TheVariants as cause
use Rattle.gft_book.specs.declared.BeginError.{BeginError}
use Rattle.gft_book.specs.declared.BeginError.TheVariants as refusal
use Rattle.gft_gen.specs.Attempts.{complete_code}
use Rattle.gft_gen.specs.Codes.{code_of_cause, code_of_refusal}

pub never_complete : (it : Cause) → code_of_cause it ≢ complete_code
never_complete (cause.Lost lane channel taken) e = omega (arith, e)
never_complete (cause.BadBlock lane channel bad) e = omega (arith, e)
never_complete (cause.TwoTotals kept other) e = omega (arith, e)
never_complete (cause.BadTotal total) e = omega (arith, e)
never_complete (cause.TooManyEods total) e = omega (arith, e)
never_complete (cause.Idle lane turns) e = omega (arith, e)
never_complete (cause.Hole total eods missing) e = omega (arith, e)
never_complete (cause.StreamTooLong lane) e = omega (arith, e)
never_complete (cause.TooManyChannels lane opened live) e = omega (arith, e)
never_complete cause.Aborted e = omega (arith, e)
never_complete cause.ControlGone e = omega (arith, e)
never_complete cause.LinkFailed e = omega (arith, e)
never_complete cause.DriveFailed e = omega (arith, e)
never_complete (cause.RangesFull kept) e = omega (arith, e)
never_complete cause.Memory e = omega (arith, e)

pub never_begun : (it : BeginError) → code_of_refusal it ≢ complete_code
never_begun (refusal.Busy found) e = omega (arith, e)
never_begun (refusal.Damaged damage) e = omega (arith, e)
never_begun (refusal.CompleteAlready len) e = omega (arith, e)
never_begun (refusal.NotInJournal missing) e = omega (arith, e)
never_begun refusal.NoSuch e = omega (arith, e)
never_begun refusal.Incomplete e = omega (arith, e)
never_begun refusal.OutOfMemory e = omega (arith, e)
never_begun refusal.DriveFailed e = omega (arith, e)
