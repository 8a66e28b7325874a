use Rattle.std.proofs.Common.{ap, refl, ◌∙◌, length}
use Rattle.gft_receive.specs.declared.channels.Channels.{Channels}
use Rattle.gft_receive.proofs.TurnLemmas.{opened_goes, opened_shows, same_bounds}
use Rattle.gft_receive.proofs.mover.Mover.open.Goals as goal

pub returns-in-Err : goal.returns-in-Err
returns-in-Err c inputs s n =
    let same = c.in-Err.ensures.same in
    (refl, opened_shows inputs c.args.channel c.open.new.self.opened c.len.result c.args.self.now s c.in-Err.ensures.full (ap (λ (k : Channels). k.opened) same) (c.len.ensures.value ∙ ap (λ (k : Channels). length k.table.items) same), tt)

pub returns-in-Ok : goal.returns-in-Ok
returns-in-Ok c inputs s n =
    (refl, refl, opened_goes inputs c.args.channel c.args.self.now _ s c.requires.next c.in-Ok.ensures.opens refl refl c.reset.ensures.quiets, same_bounds c.args.self.now _ _ _ refl c.in-Ok.ensures.opens.shift c.reset.ensures.idle)
