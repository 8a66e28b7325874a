use Rattle.std.proofs.Common.{ℕ, ◌<◌, ◌≡◌, Some}
use Rattle.std.specs.Prelude.{slice_get}
use Rattle.gft_receive.specs.declared.channels.LiveChannel.{LiveChannel}
use Rattle.gft_receive.proofs.channels.place_of.Given as goal

abbrev pub invariant-loop-i : goal.invariant-loop-i
invariant-loop-i l = (k : ℕ) (live : LiveChannel) → k < l.i → slice_get l.table k ≡ Some live → live.number ≡ l.channel → ⊥
