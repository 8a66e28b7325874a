-- Which outcomes a part of an intake gives.
use Rattle.gft_journal.specs.declared.AttachError.{AttachError}
use Rattle.gft_journal.specs.declared.AttachError.TheVariants as attach
use Rattle.gridftpd.specs.declared.outcome.Outcome.{Outcome}
use Rattle.gridftpd.specs.declared.outcome.Outcome.TheVariants as outcome

-- those of one piece
abbrev pub IsTurnsOutcome : Outcome → Type 0
IsTurnsOutcome (outcome.BadBlock bad) = Unit {0}
IsTurnsOutcome (outcome.CountRefused error) = Unit {0}
IsTurnsOutcome (outcome.RangesFull kept) = Unit {0}
IsTurnsOutcome outcome.DriveFailed = Unit {0}
IsTurnsOutcome outcome.OutOfMemory = Unit {0}
IsTurnsOutcome other = ⊥

-- that of a drive which is no keep
abbrev pub outcome_of : AttachError → Outcome
outcome_of attach.Failed = outcome.DriveFailed
outcome_of attach.OutOfMemory = outcome.OutOfMemory
outcome_of (attach.Damaged damage) = outcome.Damaged

-- those of a whole intake
abbrev pub IsRunsOutcome : Outcome → Type 0
IsRunsOutcome outcome.Damaged = ⊥
IsRunsOutcome other = Unit {0}

-- those at the EOD
abbrev pub IsEndsOutcome : Outcome → Type 0
IsEndsOutcome outcome.Complete = Unit {0}
IsEndsOutcome (outcome.Hole total number missing) = Unit {0}
IsEndsOutcome outcome.DriveFailed = Unit {0}
IsEndsOutcome other = ⊥
