use Rattle.std.proofs.Common.{◌≡◌, ◌<◌, ℕ, true, [], ◌++◌}
use mathlib.Core.Option.{some}
use lib.ListN.{get_elem?}
use Rattle.gft_pass.specs.Ledger.{Lane}
use Rattle.gft_pass.proofs.roster.Roster.settle.Given as goal

abbrev pub invariant-loop-pass : goal.invariant-loop-pass
invariant-loop-pass l =
    (goal.iterator-loop-pass).can_next l.pass-iterator × (goal.iterator-loop-pass).is_finite l.pass-iterator
    × (l.seat.table_id ≡ l.fn.self.table) × (l.table.shared.table_id ≡ l.fn.self.table) × (0 < l.fn.self.table.words)
    × (l.seat.me.0.keeps_list ≡ true) × (l.seat.me.1 ≡ []) × (l.seat.me.0.counts ≡ l.fn.self.counts)
    × (l.yielded ++ l.pass-iterator.rest.items ≡ l.fn.passes.items)
    × ((k : ℕ) (p : Lane) → get_elem? l.yielded k ≡ some p → get_elem? l.fn.self.counts p.lane ≡ some p.count)
