use Rattle.std.proofs.Common.{◌≡◌, ◌+◌, [], ◌∙◌, ap, refl, subst, sym}
use Rattle.gft_eblock.specs.declared.channel.State.{State}
use Rattle.gft_eblock.specs.Channel.{IsSoundState, Reader}
use Rattle.gft_eblock.proofs.FeedLemmas.{eod_told, failed_again, quiet_of}
use Rattle.gft_eblock.proofs.ToComeLemmas.{behind_of}
use Rattle.gft_eblock.proofs.channel.Channel.step.Goals as goal

pub returns-in-Data-clause-ok : goal.returns-in-Data-clause-ok
returns-in-Data-clause-ok c =
    let r = c.self.inside in
    let step = c.take_data-state.result.0 in
    let P : State → Type 0 = λ s. IsSoundState s r.taken r.header.items in
    let none : r.header.items ≡ [] = (subst P c.in-Data.is c.self.invariant.2).2 in
    rw (← c.self.view_is, c.in-Data.is, none)
    (record {
      used = c.take_data-state.ensures.used;
      taken = refl;
      carried = c.take_data-state.ensures.carried r.shift r.taken;
      event = c.take_data-state.ensures.event;
      quiet = quiet_of step.event (record { shift = r.shift; taken = r.taken + step.used; header = []; state = c.take_data-state.result.1 }) c.take_data-state.ensures.event;
      behind = behind_of step.event (record { shift = r.shift; taken = r.taken + step.used; header = []; state = c.take_data-state.result.1 }) (c.take_data-state.ensures.sound (r.taken + step.used)) c.take_data-state.ensures.event;
    })

pub returns-in-EodWaits-clause-ok : goal.returns-in-EodWaits-clause-ok
returns-in-EodWaits-clause-ok c = rw (← c.self.view_is, c.in-EodWaits.is) (eod_told c.self.inside.shift c.self.inside.taken c.self.inside.header.items c.args.piece.now)

pub returns-in-Failed-clause-bad : goal.returns-in-Failed-clause-bad
returns-in-Failed-clause-bad c =
    let P : Reader → Type 0 = λ r. IsSoundState r.state r.taken r.header in
    failed_again c.args.self.now c.args.piece.now c.in-Failed.bad (sym (ap (λ (r : Reader). r.state) c.self.view_is) ∙ c.in-Failed.is) (subst P c.self.view_is c.self.invariant.2)
