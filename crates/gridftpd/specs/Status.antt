-- The exit status of `gridftpd drain`.
use Rattle.std.specs.Prelude.{ℕ}
use Rattle.gridftpd.specs.declared.outcome.Outcome.{Outcome}
use Rattle.gridftpd.specs.declared.outcome.Outcome.TheVariants as outcome
use Rattle.gridftpd.specs.declared.status.Status.{Status}
use Rattle.gridftpd.specs.declared.status.Status.TheVariants as status

abbrev pub number_of : Status → ℕ
number_of status.Complete = 0
number_of status.Refused = 1
number_of status.Usage = 2
number_of status.ReadFailed = 3
number_of status.PutFailed = 4
number_of status.DriveFailed = 5
number_of status.OutOfMemory = 6
number_of status.Damaged = 7

abbrev pub status_of : Outcome → Status
status_of outcome.Complete = status.Complete
status_of (outcome.Lost taken) = status.Refused
status_of (outcome.Hole total eods missing) = status.Refused
status_of (outcome.BadBlock bad) = status.Refused
status_of (outcome.CountRefused error) = status.Refused
status_of outcome.TooLong = status.Refused
status_of (outcome.RangesFull kept) = status.Refused
status_of outcome.Damaged = status.Damaged
status_of outcome.ReadFailed = status.ReadFailed
status_of outcome.DriveFailed = status.DriveFailed
status_of outcome.OutOfMemory = status.OutOfMemory
