use Rattle.std.proofs.Common.{◌≡◌, ◌<◌, ◌∙◌, Some, ap, refl, rules}
use Rattle.std.specs.Prelude.{slice_get}
use Rattle.gft_generated.specs.declared.lane.Connection.{Connection}
use Rattle.gft_generated.proofs.LaneLemmas.{comes_bytes, comes_ended, taken_at}
use Rattle.gft_generated.proofs.lane.GeneratedLane.take_turn.Goals as goal

pub returns-then-count-eq0-clause-comes : goal.returns-then-count-eq0-clause-comes
returns-then-count-eq0-clause-comes c =
    rw (← c.self.view_is) (comes_ended _ _ c.requires.live.connection c.give-count.new.self c.args.number _ (rw (← c.self.view_is) at c.requires.live.at) c.requires.live.live refl (c.give-count.ensures.ends c.if-count-eq0.true) refl)

pub returns-clause-comes : goal.returns-clause-comes
returns-clause-comes c =
    let some : 0 < c.give-count.result = search rules in
    let at : slice_get c.self.inside.opened.items c.args.number ≡ Some c.requires.live.connection = rw (← c.self.view_is) at c.requires.live.at in
    let is = c.index_mut.ensures.value ∙ taken_at c.self.inside.opened.items c.args.number c.requires.live.connection c.index_mut.result.now at in
    rw (← c.self.view_is) (comes_bytes _ _ c.requires.live.connection c.give-count.new.self c.args.number _ _ at c.requires.live.live refl
    (c.give-count.ensures.goes_on some ∙ ap (λ (l : Connection). l.is_live) is) refl)
