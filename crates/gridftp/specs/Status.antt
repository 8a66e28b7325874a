-- The exit status of `gridftp`.
use Rattle.std.specs.Prelude.{ℕ}
use Rattle.gridftp.specs.declared.status.Status.{Status}
use Rattle.gridftp.specs.declared.status.Status.TheVariants as status

abbrev pub number_of : Status → ℕ
number_of status.Done = 0
number_of status.Refused = 1
number_of status.Usage = 2
number_of status.PutFailed = 4
number_of status.OutOfMemory = 6
