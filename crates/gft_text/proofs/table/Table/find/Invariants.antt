use Rattle.std.proofs.Common.{◌≡◌, ℕ, ◌<◌, get_or}
use Rattle.gft_text.specs.Table.{folded}
use Rattle.gft_text.specs.declared.table.Entry.{Entry}
use Rattle.gft_text.proofs.table.Table.find.Given as goal

abbrev pub invariant-loop-entry : goal.invariant-loop-entry
invariant-loop-entry l = (k : ℕ) (d : Entry) → k < l.entry-index → folded (get_or l.entry-items k d).text.now ≡ folded l.text → ⊥
