use Rattle.std.proofs.Common.{◌≡◌, ◌≤◌, [], map, replicate, vec_len}
use Rattle.std.specs.Prelude.{vec_capacity}
use Rattle.gft_pass.specs.Ledger.{lanes_below}
use Rattle.gft_pass.specs.Ledger.{nothing}
use Rattle.gft_pass.specs.Views.{list_view}
use Rattle.gft_pass.proofs.roster.Roster.begin.Given as goal

abbrev pub invariant-loop-lane : goal.invariant-loop-lane
invariant-loop-lane l =
    (l.lanes ≡ l.fn.lanes) × (l.lane-end ≡ l.fn.lanes) × (l.lane ≤ l.fn.lanes)
    × (l.seat.table_id ≡ l.table.shared.table_id) × (l.table.shared.table_id.words ≡ 1)
    × (l.seat.me ≡ (list_view (replicate l.fn.lanes nothing) l.lane, []))
    × (vec_len l.passes ≡ l.lane) × (l.fn.lanes ≤ vec_capacity l.passes)
    × (map (λ p. (p.table, p.lane)) l.passes.items ≡ lanes_below l.seat.table_id l.lane)
    × (map (λ p. p.count) l.passes.items ≡ replicate l.lane nothing)
