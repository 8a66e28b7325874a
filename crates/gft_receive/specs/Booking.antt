-- What becomes of a pass with which arrivals are booked.
use Rattle.std.specs.Prelude.{◌≡◌, List, [], ◌∷◌}
use Rattle.gft_eblock.specs.Words.{Arrival, At, Bad, Eod, Eof}
use Rattle.gft_eod.specs.Words.{eod_refusal, eof_refusal}
use Rattle.gft_keep.specs.declared.KeepError.{KeepError}
use Rattle.gft_pass.specs.declared.Cause.{Cause}
use Rattle.gft_pass.specs.declared.Numbers.{Numbers}
use Rattle.gft_book.specs.Words.{IsRefusalOf, cause_of_keep, more_bytes, one_eod, with_total}

-- the numbers of a pass once these arrivals were booked with it
abbrev pub numbers_after : List Arrival → Numbers → Numbers
numbers_after [] n = n
numbers_after (At offset value ∷ list) n = numbers_after list (more_bytes 1 n)
numbers_after (Eof total ∷ list) n = numbers_after list (with_total total n)
numbers_after (Eod ∷ list) n = numbers_after list (one_eod n)
numbers_after (Bad refusal ∷ list) n = numbers_after list n

-- the Book refused the first of these arrivals, and kept the cause
abbrev pub IsBooksCause : List Arrival → Cause → Type 0
IsBooksCause [] cause = ⊥
IsBooksCause (At offset value ∷ list) cause = (error : KeepError) × (cause ≡ cause_of_keep error)
IsBooksCause (Eof total ∷ list) cause = IsRefusalOf (λ count. eof_refusal count total) cause
IsBooksCause (Eod ∷ list) cause = IsRefusalOf eod_refusal cause
IsBooksCause (Bad refusal ∷ list) cause = ⊥
