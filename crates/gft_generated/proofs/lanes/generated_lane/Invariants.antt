use Rattle.std.proofs.Common.{◌≡◌, ◌-◌, ℕ, List, Some, vec_len}
use Rattle.std.specs.Prelude.{slice_get}
use Rattle.gft_generated.specs.Carried.{IsCarried}
use Rattle.gft_generated.proofs.lanes.generated_lane.Given as goal

abbrev pub invariant-loop-number : goal.invariant-loop-number
invariant-loop-number l =
    (vec_len l.streams ≡ l.number)
    × ((k : ℕ) (bytes : List ℕ) → slice_get l.streams.items k ≡ Some bytes → IsCarried l.file l.done.ranges l.cut l.stripe (3 - k) bytes)
