-- The causes among the numbers of passes, and which one is kept.
use Rattle.std.specs.Prelude.{List, [], ◌∷◌, ◌++◌, Option, Some, None}
use Rattle.gft_eod.specs.declared.EodError.{EodError}
use Rattle.gft_eod.specs.declared.EodError.TheVariants as eod
use Rattle.gft_pass.specs.declared.cause.Cause.{Cause}
use Rattle.gft_pass.specs.declared.cause.Cause.TheVariants.{BadTotal, TwoTotals, TooManyEods}
use Rattle.gft_pass.specs.declared.numbers.Numbers.{Numbers}

-- the list of the one cause, if there is one
abbrev pub one : Option Cause → List Cause
one None = []
one (Some cause) = cause ∷ []

-- the causes that stand in numbers, in the order of the lanes
abbrev pub causes : List Numbers → List Cause
causes [] = []
causes (n ∷ ns) = one n.cause ++ causes ns

-- the first cause stays
abbrev pub or_else : Option Cause → Cause → Option Cause
or_else None new = Some new
or_else (Some kept) new = Some kept

-- the cause as which the refusal of an EOF or an EOD is kept
abbrev pub cause_of_count : EodError → Cause
cause_of_count (eod.BadTotal total) = BadTotal total
cause_of_count (eod.TwoTotals kept new) = TwoTotals kept new
cause_of_count (eod.TooManyEods total) = TooManyEods total
