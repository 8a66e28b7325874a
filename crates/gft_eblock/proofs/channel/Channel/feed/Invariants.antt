use Rattle.std.proofs.Common.{◌≡◌, ℕ, ◌+◌, ◌-◌, ◌≤◌, List, ◌++◌, length, take}
use Rattle.gft_eblock.specs.declared.bad_block.BadBlock.{BadBlock}
use Rattle.gft_eblock.specs.Channel.{HasFailed, IsDone, to_come, wanted}
use Rattle.gft_eblock.proofs.channel.Channel.feed.Given as goal

abbrev pub invariant-loop-step : goal.invariant-loop-step
invariant-loop-step l = record {
  used : l.used ≤ length l.piece;
  taken : l.self.taken ≡ l.initial.self.taken + l.used;
  carried : (later : List ℕ) → to_come l.initial.self (take l.used l.piece ++ later) ≡ to_come l.self later;
  not_done : ¬ IsDone l.self;
  first : length l.piece ≤ wanted l.initial.self → (l.used ≡ 0) × (l.self ≡ l.initial.self);
  waited : wanted l.initial.self ≡ 0 → l.self ≡ l.initial.self;
  failed : (bad : BadBlock) → HasFailed l.initial.self bad → l.self ≡ l.initial.self;
}

abbrev pub decreases-loop-step : goal.decreases-loop-step
decreases-loop-step l = length l.piece - l.used
